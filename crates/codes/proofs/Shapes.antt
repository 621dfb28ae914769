-- What an admitted shape says of the word's sizes and of the work buffer.
use Rattle.std.proofs.Common.{◌≡◌, ℕ, ◌+◌, ◌-◌, ◌<◌, ◌≤◌, Bool, true, ◌&&◌, List, [], ◌∷◌, ◌++◌, map, length, drop, sym, refl, ap, ◌∙◌, ap₂, rules, arith, eqb, eqb-true, length-append}
use lib.ListN.{length-map, length-replicate}
use mathlib.Core.List.{map-append}
use Rattle.std.proofs.lemmas.Bool.{and_parts}
use Rattle.std.proofs.lemmas.List.{append_assoc, drop-append-le, drop-map, drop-replicate, replicate-append-replicate}
use Rattle.gf.specs.Theory.{Operations, Laws}
use Rattle.codes.specs.Polynomials.{zeros}
use Rattle.codes.specs.Codewords.{all_zero, code_shape, work_shape}

pub code_sizes : {E : Type 0} (f : Operations E) (n r : ℕ) → code_shape f n r ≡ true → (1 ≤ r) × (r ≤ 16) × (r < n) × (n ≤ f.reach)
code_sizes f n r e = (search rules, search rules, search rules, search rules)

-- an admitted work buffer has its length
pub admitted_work : {E S : Type 0} (f : Operations E) (mean : S → E) (shape : Bool) (work : List S) → true ≡ (shape && work_shape f (map mean work))
    → length work ≡ 512
admitted_work f mean shape work e =
    let right = (and_parts shape (work_shape f (map mean work)) (sym e)).1 in
    sym (length-map work mean)
    ∙ eqb-true (length (map mean work)) 512 (and_parts (eqb (length (map mean work)) 512) (all_zero f (map mean work)) right).0

module _ {E : Type 0} {f : Operations E} (l : Laws f) where
  zeros_of : (xs : List E) → all_zero f xs ≡ true → xs ≡ zeros f (length xs)
  zeros_of [] e = refl
  zeros_of (x ∷ xs) e = ap₂ ◌∷◌ (l.equal_no x f.zero (and_parts _ _ e).0) (zeros_of xs (and_parts _ _ e).1)

  module _ {S : Type 0} (mean : S → E) where
    -- an admitted work buffer is all zeros
    pub admitted_zeros : (shape : Bool) (work : List S) → true ≡ (shape && work_shape f (map mean work)) → map mean work ≡ zeros f 512
    admitted_zeros shape work e =
        let right = (and_parts shape (work_shape f (map mean work)) (sym e)).1 in
        zeros_of (map mean work) (and_parts (eqb (length (map mean work)) 512) (all_zero f (map mean work)) right).1
        ∙ ap (zeros f) (length-map work mean ∙ admitted_work f mean shape work e)

    -- zeros stay zeros where zeros are written over the first of them
    pub zeros_over : (n r : ℕ) (written first rest work : List S) → work ≡ first ++ rest → map mean work ≡ zeros f n → r ≤ length first → length written ≡ r
        → all_zero f (map mean written) ≡ true → map mean ((written ++ drop r first) ++ rest) ≡ zeros f n
    zeros_over n r written first rest work parts all front long none =
        let many : n ≡ length work = sym (length-replicate n f.zero) ∙ ap length (sym all) ∙ length-map work mean in
        let behind : r + (n - r) ≡ n = omega (arith, many, ap length parts, length-append first rest) in
        ap (map mean) (append_assoc written (drop r first) rest ∙ ap (λ ys. written ++ ys) (sym (drop-append-le r first rest front) ∙ ap (drop r) (sym parts)))
        ∙ map-append mean written (drop r work)
        ∙ ap₂ ◌++◌ (zeros_of (map mean written) none ∙ ap (zeros f) (length-map written mean ∙ long)) (sym (drop-map mean r work) ∙ ap (drop r) all ∙ drop-replicate r n f.zero)
        ∙ replicate-append-replicate r (n - r) f.zero ∙ ap (zeros f) behind
