-- The terms of a polynomial at one power of the root after another, and what the search for its roots keeps.
use Rattle.std.proofs.Common.{◌≡◌, ℕ, zero, suc, ◌+◌, ◌-◌, ◌<◌, ◌≤◌, List, [], ◌∷◌, ◌++◌, map, length, get_or, take, set, sym, refl, ap, ◌∙◌, subst, ap₂, add-one, arith, length-append, take-suc-set}
use mathlib.Core.List.{map-append}
use Rattle.gf.specs.Theory.{Operations, Laws, pow}
use Rattle.codes.specs.Polynomials.{value, zeros}
use Rattle.codes.specs.steps.Decoding.{point, terms_of, total, Suspects}
use Rattle.codes.proofs.Lists.{cons}
use Rattle.codes.proofs.Values.{pow-one, pow-mul}
use Rattle.codes.proofs.Suspects.{suspects_few, suspects_hit, suspects_miss}

module _ {E : Type 0} (f : Operations E) where
  pub length-terms_of : (x : E) (p : List E) → length (terms_of f x p) ≡ length p
  length-terms_of x [] = refl
  length-terms_of x (c ∷ p) = ap suc (length-terms_of x p)

  pub terms_at : (x : E) (p : List E) (k : ℕ) → k < length p
      → get_or (terms_of f x p) k f.zero ≡ f.mul (get_or p k f.zero) (pow f x (length p - 1 - k))
  terms_at x [] k h = absurd (omega arith)
  terms_at x (c ∷ p) zero h =
      let e : length p ≡ suc (length p) - 1 - 0 = omega arith in ap (λ (n : ℕ). f.mul c (pow f x n)) e
  terms_at x (c ∷ p) (suc k) h =
      let e : length p - 1 - k ≡ suc (length p) - 1 - suc k = omega arith in
      terms_at x p k (omega arith) ∙ ap (λ (n : ℕ). f.mul (get_or p k f.zero) (pow f x n)) e

  -- the terms add up to the value
  total-terms_of : (x : E) (p : List E) → total f (terms_of f x p) ≡ value f x p
  total-terms_of x [] = refl
  total-terms_of x (c ∷ p) = ap (f.add (f.mul c (pow f x (length p)))) (total-terms_of x p)

module _ {E : Type 0} {f : Operations E} (l : Laws f) where
  -- one more is added
  pub total-next : (p : List E) (k : ℕ) → k < length p → total f (take (k + 1) p) ≡ f.add (total f (take k p)) (get_or p k f.zero)
  total-next p k h = ap (λ (n : ℕ). total f (take n p)) (add-one k) ∙ next p k h
    where
      next : (p : List E) (k : ℕ) → k < length p → total f (take (suc k) p) ≡ f.add (total f (take k p)) (get_or p k f.zero)
      next [] k h = absurd (omega arith)
      next (c ∷ p) zero h = l.add_comm c f.zero
      next (c ∷ p) (suc k) h = ap (f.add c) (next p k (omega arith)) ∙ sym (l.add_assoc c (total f (take k p)) (get_or p k f.zero))

  -- at one the terms are the coefficients
  pub terms_one : (p : List E) → terms_of f f.one p ≡ p
  terms_one [] = refl
  terms_one (c ∷ p) = cons (ap (f.mul c) (pow-one l (length p)) ∙ l.mul-one c) (terms_one p)

  -- the terms of the terms at y are those at y · x
  pub terms_terms : (x y : E) (p : List E) → terms_of f y (terms_of f x p) ≡ terms_of f (f.mul y x) p
  terms_terms x y [] = refl
  terms_terms x y (c ∷ p) =
      cons (ap (λ (n : ℕ). f.mul (f.mul c (pow f x (length p))) (pow f y n)) (length-terms_of f x p)
      ∙ l.mul_assoc c (pow f x (length p)) (pow f y (length p))
      ∙ ap (f.mul c) (l.mul_comm (pow f x (length p)) (pow f y (length p)) ∙ sym (pow-mul l y x (length p)))) (terms_terms x y p)

  -- the place k of a word of n symbols, with e places behind it
  module _ (p : List E) (n k e : ℕ) (here : k + e + 1 ≡ n) where
    point_here : point f n k ≡ pow f f.root e
    point_here = let same : n - 1 - k ≡ e = omega arith in ap (pow f f.root) same

    value_here : value f (point f n k) p ≡ total f (terms_of f (pow f f.root e) p)
    value_here = ap (λ x. value f x p) point_here ∙ sym (total-terms_of f (pow f f.root e) p)

    before : n - 1 - e ≡ k
    before = omega arith

    -- the terms do not add up to zero: the place is no suspect
    pub miss : (places : List ℕ) → (total f (terms_of f (pow f f.root e) p) ≡ f.zero → ⊥) → Suspects f p n e places → Suspects f p n (e + 1) places
    miss places z s =
        subst (λ (m : ℕ). Suspects f p n m places) (sym (add-one e))
        (suspects_miss l p n e places (omega arith) (λ v. z (sym value_here ∙ ap (λ (m : ℕ). value f (point f n m) p) (sym before) ∙ v)) s)

    -- they do: it is one, and is written behind the others
    module _ (places : List ℕ) (root : total f (terms_of f (pow f f.root e) p) ≡ f.zero) (so : Suspects f p n e places) where
      more : Suspects f p n (suc e) (places ++ (k ∷ []))
      more =
          subst (λ (m : ℕ). Suspects f p n (suc e) (places ++ (m ∷ []))) before
          (suspects_hit l p n e places (omega arith) (ap (λ (m : ℕ). value f (point f n m) p) before ∙ value_here ∙ root) so)

      pub hit : Suspects f p n (e + 1) (places ++ (k ∷ []))
      hit = subst (λ (m : ℕ). Suspects f p n m (places ++ (k ∷ []))) (sym (add-one e)) more

      -- there are still fewer than coefficients
      pub room : n ≤ f.reach → 0 < length p → (p ≡ zeros f (length p) → ⊥) → length places + 1 < length p
      room h some nonzero =
          omega (
            arith,
            suspects_few l (length p - 1) n (suc e) p (places ++ (k ∷ [])) h (omega arith) nonzero more,
            length-append places (k ∷ []),
          )

      -- and its point behind the other points
      pub points-next : {S : Type 0} (mean : S → E) (points : List S) (x : S) → length places < length points
          → mean x ≡ pow f f.root e → map mean (take (length places) points) ≡ map (point f n) places
          → map mean (take (length (places ++ (k ∷ []))) (set points (length places) x)) ≡ map (point f n) (places ++ (k ∷ []))
      points-next mean points x b q same =
          ap (map mean) (ap (λ (m : ℕ). take m (set points (length places) x)) (length-append places (k ∷ []) ∙ add-one (length places)) ∙ take-suc-set points (length places) x b)
          ∙ map-append mean (take (length places) points) (x ∷ []) ∙ ap₂ (λ xs y. xs ++ (y ∷ [])) same (q ∙ sym point_here)
          ∙ sym (map-append (point f n) places (k ∷ []))
