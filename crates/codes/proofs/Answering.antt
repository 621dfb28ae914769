-- What the division writes is the remainder.
use Rattle.std.proofs.Common.{◌≡◌, ℕ, ◌-◌, true, List, [], ◌∷◌, ◌++◌, map, length, take, drop, Ok, Err, MatchBool, Result, sym, ap, ◌∙◌, subst, ap₂, arith}
use mathlib.Core.List.{tail}
use lib.ListN.{length-map}
use Rattle.std.proofs.lemmas.List.{take_rest}
use Rattle.gf.specs.declared.refusal.Refusal.{Refusal}
use Rattle.gf.specs.declared.refusal.Refusal.TheVariants.{Shape}
use Rattle.gf.specs.Theory.{Operations, Laws}
use Rattle.codes.specs.Polynomials.{zeros}
use Rattle.codes.specs.Division.{divided, remainder_of, Remainder, admitted, Answered}
use Rattle.codes.proofs.Admission.{admitted_begins}
use Rattle.codes.proofs.LongDivision.{remainder, remainder_after, remainder-zeros}

-- the divisor without its first symbol
tail_of : {E S : Type 0} (mean : S → E) (xs : List S) (a : E) (d : List E) → map mean xs ≡ a ∷ d → map mean (take (length xs - 1) (drop 1 xs)) ≡ d
tail_of mean [] a d e = absurd (omega (arith, ap length e))
tail_of mean (x ∷ xs) a d e = ap (map mean) (take_rest (x ∷ xs) 1) ∙ ap tail e

module _ {E : Type 0} {f : Operations E} (l : Laws f) (places : ℕ) (divisor : List E) (ok : admitted f divisor places ≡ true) where
  -- the value is all that a remainder by an admitted divisor has to have
  by_value : (message rest : List E) → rest ≡ remainder_of f message divisor → Remainder f message divisor rest
  by_value message rest e =
      let b = admitted_begins l places divisor ok in
      subst (λ r. Remainder f message divisor r) (sym e)
      (subst (λ g. Remainder f message g (remainder_of f message g)) (sym b.1) (remainder l b.0 message))

  -- zeros in front of the message do not count
  pub alone : (n : ℕ) (message rest : List E) → Remainder f (zeros f n ++ message) divisor rest → Remainder f message divisor rest
  alone n message rest r =
      let b = admitted_begins l places divisor ok in
      by_value message rest (r.value ∙ subst (λ g. remainder_of f (zeros f n ++ message) g ≡ remainder_of f message g) (sym b.1) (remainder-zeros l b.0 n message))

-- what is written with the message behind what the places held
pub behind : {E S : Type 0} {f : Operations E} (l : Laws f) (mean : S → E) (divisor message before after : List S)
    → admitted f (map mean divisor) (length before) ≡ true
    → map mean after ≡ divided f (map mean (take (length divisor - 1) (drop 1 divisor))) (length message) (map mean before ++ map mean message)
    → Remainder f (map mean before ++ map mean message) (map mean divisor) (map mean after)
behind {f = f} l mean divisor message before after ok e =
    let b = admitted_begins l (length before) (map mean divisor) ok in
    by_value l (length before) (map mean divisor) ok (map mean before ++ map mean message) (map mean after)
    (e ∙ ap₂ (λ d (n : ℕ). divided f d n (map mean before ++ map mean message)) (tail_of mean divisor f.one b.0 b.1) (sym (length-map message mean))
    ∙ sym (remainder_after l b.0 (map mean before) (map mean message) (length-map before mean ∙ sym b.2))
    ∙ ap (remainder_of f (map mean before ++ map mean message)) (sym b.1))

-- what is written where the divisor is admitted
pub answered_value : {E S : Type 0} (f : Operations E) (mean : S → E) (message : List E) (divisor : List S) (answer : Result Unit Refusal) (before after : List S)
    → Answered f mean message divisor answer before after → admitted f (map mean divisor) (length before) ≡ true
    → map mean after ≡ remainder_of f message (map mean divisor)
answered_value f mean message divisor answer before after a e =
    (subst (λ ok. MatchBool ok ((answer ≡ Ok tt) × Remainder f message (map mean divisor) (map mean after)) ((answer ≡ Err Shape) × (after ≡ before))) e a).1.value
