-- The checks of data symbols: with them the data make a codeword, and no other checks do.
use Rattle.std.proofs.Common.{◌≡◌, ℕ, ◌-◌, ◌≤◌, List, ◌++◌, length, take, sym, ap, ◌∙◌, subst, arith, length-append, length-take-le, take_at}
use lib.ListN.{length-map}
use Rattle.gf.specs.Theory.{Operations, Laws}
use Rattle.codes.specs.Polynomials.{zeros}
use Rattle.codes.specs.Division.{remainder_of, Remainder}
use Rattle.codes.specs.Codewords.{generator, Codeword, checks_of}
use Rattle.codes.proofs.LongDivision.{length-remainder, remainder}
use Rattle.codes.proofs.Words.{generator-cons}
use Rattle.codes.proofs.Filling.{filled_codeword, same_data}

module _ {E : Type 0} {f : Operations E} (l : Laws f) where
  length-rest : (r : ℕ) (w : List E) → length (remainder_of f w (generator f r)) ≡ r
  length-rest r w =
      let g = generator-cons l r in
      ap (λ d. length (remainder_of f w d)) g.1 ∙ length-remainder l g.0 w ∙ g.2

  rest_left : (r : ℕ) (w : List E) → Remainder f w (generator f r) (remainder_of f w (generator f r))
  rest_left r w =
      let g = generator-cons l r in
      subst (λ d. Remainder f w d (remainder_of f w d)) (sym g.1) (remainder l g.0 w)

  pub length-checks_of : (r : ℕ) (symbols : List E) → length (checks_of f r symbols) ≡ r
  length-checks_of r symbols =
      length-map (remainder_of f (symbols ++ zeros f r) (generator f r)) f.neg ∙ length-rest r (symbols ++ zeros f r)

  pub codeword-checks_of : (r : ℕ) (symbols : List E) → r ≤ f.reach → Codeword f r (symbols ++ checks_of f r symbols)
  codeword-checks_of r symbols h =
      let w = symbols ++ zeros f r in
      filled_codeword l r symbols (remainder_of f w (generator f r)) h (length-rest r w) (rest_left r w)

  -- a codeword is its data with their checks behind
  pub codeword_is : (r : ℕ) (w : List E) → r ≤ length w → length w ≤ f.reach → Codeword f r w
      → w ≡ take (length w - r) w ++ checks_of f r (take (length w - r) w)
  codeword_is r w h n c =
      let symbols = take (length w - r) w in
      let sized : length symbols ≡ length w - r = length-take-le (length w - r) w (omega arith) in
      same_data l r w (symbols ++ checks_of f r symbols)
      (sym (length-append symbols (checks_of f r symbols) ∙ omega (arith, sized, length-checks_of r symbols))) h n
      (sym (take_at symbols (checks_of f r symbols) (length w - r) sized)) c (codeword-checks_of r symbols (omega arith))
