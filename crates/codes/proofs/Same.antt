-- Polynomials with the same coefficients.
use Rattle.std.proofs.Common.{◌≡◌, ℕ, zero, suc, List, [], ◌∷◌, ◌++◌, reverse, length, get_or, sym, refl, ap, ◌∙◌, ext_get_or}
use mathlib.Core.List.{reverse_aux, reverse-reverse, reverse-append}
use lib.ListN.{length-reverse}
use Rattle.gf.specs.Theory.{Operations}
use Rattle.codes.specs.Polynomials.{zeros, Same}

module _ {E : Type 0} (f : Operations E) where
  get_or_behind : (p z : List E) (k : ℕ) → ((j : ℕ) → get_or z j f.zero ≡ f.zero) → get_or (p ++ z) k f.zero ≡ get_or p k f.zero
  get_or_behind [] z k h = h k
  get_or_behind (a ∷ p) z zero h = refl
  get_or_behind (a ∷ p) z (suc k) h = get_or_behind p z k h

  reverse-zeros : (n : ℕ) (z : List E) (k : ℕ) → ((j : ℕ) → get_or z j f.zero ≡ f.zero)
      → get_or (reverse_aux (zeros f n) z) k f.zero ≡ f.zero
  reverse-zeros zero z k h = h k
  reverse-zeros (suc n) z k h = reverse-zeros n (f.zero ∷ z) k more
    where
      more : (j : ℕ) → get_or (f.zero ∷ z) j f.zero ≡ f.zero
      more zero = refl
      more (suc j) = h j

  -- zeros in front do not count
  pub leading : (n : ℕ) (p : List E) → Same f (zeros f n ++ p) p
  leading n p k =
      ap (λ z. get_or z k f.zero) (reverse-append (zeros f n) p)
      ∙ get_or_behind (reverse p) (reverse (zeros f n)) k (λ j. reverse-zeros n [] j (λ i. refl))

  -- at one length the same polynomial is the same list
  pub level : (p q : List E) → length p ≡ length q → Same f p q → p ≡ q
  level p q e s =
      sym (reverse-reverse p)
      ∙ ap reverse (ext_get_or f.zero (reverse p) (reverse q) (length-reverse p ∙ e ∙ sym (length-reverse q)) (λ i h. s i))
      ∙ reverse-reverse q
