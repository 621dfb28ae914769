-- The suspect places: they are no more than the degree, their points are different, and one more place is looked at.
use Rattle.std.proofs.Common.{◌≡◌, ℕ, suc, ◌+◌, ◌-◌, ◌<◌, ◌≤◌, ◌⊎◌, List, [], ◌∷◌, ◌++◌, map, length, sym, refl, ap, ◌∙◌, subst, inl, inr, ⊎_elim, arith}
use lib.ListN.{length-map}
use Rattle.std.proofs.lemmas.Bool.{cases_lt}
use Rattle.gf.specs.Theory.{Operations, Laws}
use Rattle.codes.specs.Polynomials.{value, zeros, times}
use Rattle.codes.specs.Codewords.{Fresh, Apart}
use Rattle.codes.specs.steps.Decoding.{Among, point, Suspects}
use Rattle.codes.proofs.Lists.{times-zeros}
use Rattle.codes.proofs.Values.{value-times}
use Rattle.codes.proofs.PowerSums.{Zero, zero-list, zero-zeros, no_divisors, apart_minus}
use Rattle.codes.proofs.Words.{linear, value-linear, factor}

module _ {A : Type 0} where
  fresh-among : (x y : A) (ys : List A) → Fresh x ys → Among y ys → x ≡ y → ⊥
  fresh-among x y [] n m e = m
  fresh-among x y (z ∷ ys) n (inl h) e = n.0 (e ∙ h)
  fresh-among x y (z ∷ ys) n (inr m) e = fresh-among x y ys n.1 m e

  fresh-snoc : (x : A) (ys : List A) (y : A) → Fresh x ys → (x ≡ y → ⊥) → Fresh x (ys ++ (y ∷ []))
  fresh-snoc x [] y n h = (h, tt)
  fresh-snoc x (z ∷ ys) y n h = (n.0, fresh-snoc x ys y n.1 h)

  apart_snoc : (xs : List A) (y : A) → Apart xs → ((x : A) → Among x xs → x ≡ y → ⊥) → Apart (xs ++ (y ∷ []))
  apart_snoc [] y a h = (tt, tt)
  apart_snoc (x ∷ xs) y a h = (fresh-snoc x xs y a.0 (h x (inl refl)), apart_snoc xs y a.1 (λ z m. h z (inr m)))

  among-snoc : (x : A) (xs : List A) (y : A) → Among x (xs ++ (y ∷ [])) → Among x xs ⊎ (x ≡ y)
  among-snoc x [] y (inl e) = inr e
  among-snoc x [] y (inr m) = absurd m
  among-snoc x (z ∷ xs) y (inl e) = inl (inl e)
  among-snoc x (z ∷ xs) y (inr m) = ⊎_elim (λ h. inl (inr h)) (λ e. inr e) (among-snoc x xs y m)

  among_front : (x : A) (xs : List A) (y : A) → Among x xs → Among x (xs ++ (y ∷ []))
  among_front x [] y m = absurd m
  among_front x (z ∷ xs) y (inl e) = inl e
  among_front x (z ∷ xs) y (inr m) = inr (among_front x xs y m)

  among_last : (x : A) (xs : List A) (y : A) → x ≡ y → Among x (xs ++ (y ∷ []))
  among_last x [] y e = inl e
  among_last x (z ∷ xs) y e = inr (among_last x xs y e)

module _ {E : Type 0} {f : Operations E} (l : Laws f) where
  -- the roots of a polynomial

  zero-times : (q : List E) (b : E) → Zero f q → Zero f (times f q (linear f b))
  zero-times q b z =
      subst (Zero f) (sym (ap (λ p. times f p (linear f b)) (zero-list f q z) ∙ times-zeros l (length q) f.one (f.neg b ∷ [])))
      (zero-zeros f (length q + 1))

  -- zero at as many different points as there are coefficients
  many_roots : (xs p : List E) → Apart xs → length p ≤ length xs → ((x : E) → Among x xs → value f x p ≡ f.zero) → Zero f p
  many_roots xs [] a h z = tt
  many_roots [] (c ∷ p) a h z = absurd (omega arith)
  many_roots (b ∷ xs) (c ∷ p) a h z =
      let d = factor l b c p (z b (inl refl)) in
      subst (Zero f) d.2 (zero-times d.0 b (many_roots xs d.0 a.1 (omega (arith, d.1)) (other d.0 d.2)))
    where
      other : (q : List E) → times f q (linear f b) ≡ c ∷ p → (x : E) → Among x xs → value f x q ≡ f.zero
      other q e x m =
          no_divisors l (value f x q) (value f x (linear f b)) (sym (value-times l x q (linear f b)) ∙ ap (value f x) e ∙ z x (inr m))
          (λ h. apart_minus l b x (fresh-among b x xs a.0 m) (sym (value-linear l x b) ∙ h))

  roots_map : (p : List E) (g : ℕ → E) (ks : List ℕ) → ((k : ℕ) → Among k ks → value f (g k) p ≡ f.zero)
      → (x : E) → Among x (map g ks) → value f x p ≡ f.zero
  roots_map p g [] h x m = absurd m
  roots_map p g (k ∷ ks) h x (inl e) = ap (λ y. value f y p) e ∙ h k (inl refl)
  roots_map p g (k ∷ ks) h x (inr m) = roots_map p g ks (λ j n. h j (inr n)) x m

  apart-map : (n : ℕ) (places : List ℕ) → n ≤ f.reach → Apart places → ((k : ℕ) → Among k places → k < n) → Apart (map (point f n) places)
  apart-map n [] h a b = tt
  apart-map n (p ∷ ps) h a b = (fresh ps a.0 (λ k m. b k (inr m)), apart-map n ps h a.1 (λ k m. b k (inr m)))
    where
      inside : p < n
      inside = b p (inl refl)

      fresh : (qs : List ℕ) → Fresh p qs → ((k : ℕ) → Among k qs → k < n) → Fresh (point f n p) (map (point f n) qs)
      fresh [] d b = tt
      fresh (q ∷ qs) d b = (
        (λ e. d.0 (same (b q (inl refl)) (l.powers-differ (n - 1 - p) (n - 1 - q) (omega (arith, inside)) (omega (arith, inside)) e))),
        fresh qs d.1 (λ k m. b k (inr m)),
      )
        where
          same : q < n → n - 1 - p ≡ n - 1 - q → p ≡ q
          same h e = omega (arith, inside)

  pub points-apart : (n e : ℕ) (p : List E) (places : List ℕ) → n ≤ f.reach → Suspects f p n e places → Apart (map (point f n) places)
  points-apart n e p places h s = apart-map n places h s.apart s.below

  -- a polynomial of degree at most t that is not zero has at most t suspects
  pub suspects_few : (t n e : ℕ) (p : List E) (places : List ℕ) → n ≤ f.reach → length p ≤ suc t
      → (p ≡ zeros f (length p) → ⊥) → Suspects f p n e places → length places ≤ t
  suspects_few t n e p places h k some s = at_most (λ m. some (zero-list f p (many_roots xs p apart (long m) (roots_map p (point f n) places s.roots))))
    where
      xs : List E
      xs = map (point f n) places

      apart : Apart xs
      apart = points-apart n e p places h s

      long : suc t ≤ length places → length p ≤ length xs
      long m = omega (arith, length-map places (point f n))

      at_most : (suc t ≤ length places → ⊥) → length places ≤ t
      at_most m = ⊎_elim (λ (i : t < length places). absurd (m (omega arith))) (λ (i : length places ≤ t). i) (cases_lt t (length places))

  -- one place after another, from the last

  pub suspects-none : (p : List E) (n : ℕ) → Suspects f p n 0 []
  suspects-none p n = record {
    apart = tt;
    below = λ k m. absurd m;
    last = λ k m. absurd m;
    roots = λ k m. absurd m;
    all = λ k h i z. absurd (omega arith);
  }

  pub suspects_hit : (p : List E) (n e : ℕ) (places : List ℕ) → e < n → value f (point f n (n - 1 - e)) p ≡ f.zero
      → Suspects f p n e places → Suspects f p n (suc e) (places ++ ((n - 1 - e) ∷ []))
  suspects_hit p n e places h z s = record {
    apart = apart_snoc places (n - 1 - e) s.apart (λ k m i. new k (s.last k m) i);
    below = λ k m. ⊎_elim (s.below k) (λ (i : k ≡ n - 1 - e). inside k i) (among-snoc k places (n - 1 - e) m);
    last = λ k m. ⊎_elim (λ (a : Among k places). more k (s.last k a)) (λ (i : k ≡ n - 1 - e). first k i) (among-snoc k places (n - 1 - e) m);
    roots = λ k m. ⊎_elim (s.roots k) (λ (i : k ≡ n - 1 - e). ap (λ (j : ℕ). value f (point f n j) p) i ∙ z) (among-snoc k places (n - 1 - e) m);
    all = λ k b i r.
        ⊎_elim (λ (a : k + e < n). among_last k places (n - 1 - e) (here k i a)) (λ (a : n ≤ k + e). among_front k places (n - 1 - e) (s.all k b a r)) (cases_lt (k + e) n);
  }
    where
      new : (k : ℕ) → n ≤ k + e → k ≡ n - 1 - e → ⊥
      new k a i = omega arith

      inside : (k : ℕ) → k ≡ n - 1 - e → k < n
      inside k i = omega arith

      more : (k : ℕ) → n ≤ k + e → n ≤ k + suc e
      more k a = omega arith

      first : (k : ℕ) → k ≡ n - 1 - e → n ≤ k + suc e
      first k i = omega arith

      here : (k : ℕ) → n ≤ k + suc e → k + e < n → k ≡ n - 1 - e
      here k i a = omega arith

  pub suspects_miss : (p : List E) (n e : ℕ) (places : List ℕ) → e < n → (value f (point f n (n - 1 - e)) p ≡ f.zero → ⊥)
      → Suspects f p n e places → Suspects f p n (suc e) places
  suspects_miss p n e places h z s = record {
    apart = s.apart;
    below = s.below;
    last = λ k m. more k (s.last k m);
    roots = s.roots;
    all = λ k b i r.
        ⊎_elim (λ (a : k + e < n). absurd (z (ap (λ (j : ℕ). value f (point f n j) p) (here k i a) ∙ r))) (λ (a : n ≤ k + e). s.all k b a r) (cases_lt (k + e) n);
  }
    where
      more : (k : ℕ) → n ≤ k + e → n ≤ k + suc e
      more k a = omega arith

      here : (k : ℕ) → n ≤ k + suc e → k + e < n → n - 1 - e ≡ k
      here k i a = omega arith
