-- What correcting answers is what correcting every word comes to.
use Rattle.std.proofs.Common.{◌≡◌, ℕ, Bool, true, false, ◌&&◌, List, map, length, get_or, Ok, Err, Result, MatchBool, sym, refl, ap, ◌∙◌, subst, ◌⊎◌, inl, inr, arith}
use lib.ListN.{length-map}
use Rattle.std.proofs.lemmas.Bool.{and_parts}
use Rattle.gf.specs.declared.refusal.Refusal.{Refusal}
use Rattle.gf.specs.declared.refusal.Refusal.TheVariants.{Shape, BeyondRepair}
use Rattle.gf.specs.Theory.{Operations, Laws}
use Rattle.codes.specs.Polynomials.{zeros}
use Rattle.codes.specs.Codewords.{distance, code_shape, work_shape, Corrected, Outcome, Correction}
use Rattle.codes.proofs.Shapes.{code_sizes}
use Rattle.codes.proofs.Words.{unique}
use Rattle.codes.specs.Correcting.{Near, Corrects}

module _ {E S : Type 0} {f : Operations E} (l : Laws f) (mean : S → E) (checks : ℕ) (before after : List S) where
  -- at most one codeword is near
  near_once : (c c′ : List E) → code_shape f (length before) checks ≡ true → Near f mean checks before c → Near f mean checks before c′ → c ≡ c′
  near_once c c′ shape p q =
      unique l checks (map mean before) c c′ (p.long ∙ sym (length-map before mean)) (q.long ∙ sym (length-map before mean))
      (omega (arith, length-map before mean, (code_sizes f (length before) checks shape).3)) p.is_codeword q.is_codeword p.within q.within

  -- the corrected word is the near codeword
  near_corrected : (count : ℕ) → Corrected f mean checks before after count → Near f mean checks before (map mean after)
  near_corrected count w = record { long = length-map after mean ∙ w.long; is_codeword = w.codeword; within = omega (arith, w.counted, w.few) }

  near_answer : (answer : Result ℕ Refusal) → Outcome f mean checks before after answer → code_shape f (length before) checks ≡ true
      → (c : List E) → Near f mean checks before c → (answer ≡ Ok (distance f (map mean before) c)) × (map mean after ≡ c)
  near_answer (Ok count) w shape c p =
      let same = near_once (map mean after) c shape (near_corrected count w) p in
      (ap Ok (w.counted ∙ ap (distance f (map mean before)) same), same)
  near_answer (Err refusal) w shape c p = absurd (omega (arith, w.1.none c p.long p.is_codeword, p.within))

  far_answer : (answer : Result ℕ Refusal) → Outcome f mean checks before after answer → ((c : List E) → Near f mean checks before c → ⊥)
      → (answer ≡ Err BeyondRepair) × (after ≡ before)
  far_answer (Ok count) w none = absurd (none (map mean after) (near_corrected count w))
  far_answer (Err refusal) w none = (ap Err w.0, w.1.same)

  near_or_none : (answer : Result ℕ Refusal) → Outcome f mean checks before after answer
      → ((c : List E) × Near f mean checks before c) ⊎ ((c : List E) → Near f mean checks before c → ⊥)
  near_or_none (Ok count) w = inl (map mean after, near_corrected count w)
  near_or_none (Err refusal) w = inr (λ c p. omega (arith, w.1.none c p.long p.is_codeword, p.within))

  -- where the element is the same, so is the symbol
  abbrev Kept : Type 0
  Kept = (j : ℕ) (s : S) → mean (get_or before j s) ≡ mean (get_or after j s) → get_or before j s ≡ get_or after j s

  kept_same : after ≡ before → Kept
  kept_same e j s m = ap (λ w. get_or w j s) (sym e)

  kept_answer : (answer : Result ℕ Refusal) → Outcome f mean checks before after answer → Kept
  kept_answer (Ok count) w = w.kept
  kept_answer (Err refusal) w = kept_same w.1.same

-- whatever correcting answers of a word, this is true of it
pub corrects : {E S : Type 0} {f : Operations E} → Laws f → (mean : S → E) (checks : ℕ) (before after work_before work_after : List S) (answer : Result ℕ Refusal)
    → Correction f mean checks before after work_before work_after answer → Corrects f mean checks before after work_before work_after answer
corrects {E} {S} {f} l mean checks before after work_before work_after answer correction = record {
  shape = λ e. decided e;
  cleared = λ e. (decided e).0;
  decided = λ e. near_or_none l mean checks before after answer (decided e).1;
  one = near_once l mean checks before after;
  near = λ c e. near_answer l mean checks before after answer (decided e).1 (and_parts _ _ e).0 c;
  kept = kept admitted refl;
  far = λ e. far_answer l mean checks before after answer (decided e).1;
}
  where
    admitted : Bool
    admitted = code_shape f (length before) checks && work_shape f (map mean work_before)

    decided : {t : Bool} → admitted ≡ t
        → MatchBool t ((map mean work_after ≡ zeros f 512) × Outcome f mean checks before after answer)
        ((answer ≡ Err Shape) × (after ≡ before) × (work_after ≡ work_before))
    decided e =
        subst (λ t. MatchBool t ((map mean work_after ≡ zeros f 512) × Outcome f mean checks before after answer)
        ((answer ≡ Err Shape) × (after ≡ before) × (work_after ≡ work_before))) e correction

    kept : (t : Bool) → admitted ≡ t → Kept l mean checks before after
    kept true e = kept_answer l mean checks before after answer (decided e).1
    kept false e = kept_same l mean checks before after (decided e).1
