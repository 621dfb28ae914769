-- The values of polynomials: of sums, products and parts, and that the same polynomial has the same values.
use Rattle.std.proofs.Common.{◌≡◌, ℕ, zero, suc, ◌+◌, ◌-◌, ◌<◌, List, [], ◌∷◌, ◌++◌, reverse, length, get_or, set, sym, refl, ap, ◌∙◌, ap₂, suc-add, zero-add, arith, length-append, length-set}
use mathlib.Core.List.{reverse_aux}
use lib.ListN.{length-replicate, length-map}
use Rattle.gf.specs.Theory.{Operations, Laws, pow}
use Rattle.codes.specs.Polynomials.{value, zeros, scale, negs, over, plus, times, Same}
use Rattle.codes.proofs.Elements.{mul-zero, zero-mul, neg-zero, one-mul}
use Rattle.codes.proofs.Lists.{length_over, length-times}
use Rattle.codes.proofs.Ring.{O, I, ◌⊕◌, ◌⊗◌, ⊝◌, ◌≐◌, ring₁, ring₂, ring₃, ring₄, ring₅, ring₆}

module _ {E : Type 0} (f : Operations E) where
  -- Horner's rule: what it has so far times x, and the next coefficient
  abbrev pub horner : E → List E → E → E
  horner x [] so_far = so_far
  horner x (c ∷ p) so_far = horner x p (f.add (f.mul so_far x) c)

  -- the value from the lowest power on
  low : E → List E → E
  low x [] = f.zero
  low x (c ∷ p) = f.add (f.mul (low x p) x) c

module _ {E : Type 0} {f : Operations E} (l : Laws f) where
  pub pow-add : (x : E) (i j : ℕ) → pow f x (i + j) ≡ f.mul (pow f x i) (pow f x j)
  pow-add x zero j = ap (pow f x) (zero-add j) ∙ sym (one-mul l (pow f x j))
  pow-add x (suc i) j = ap (pow f x) (suc-add i j) ∙ ap (f.mul x) (pow-add x i j) ∙ sym (l.mul_assoc x (pow f x i) (pow f x j))

  pub pow-one : (i : ℕ) → pow f f.one i ≡ f.one
  pow-one zero = refl
  pow-one (suc i) = ap (f.mul f.one) (pow-one i) ∙ l.mul-one f.one

  pub pow-mul : (x y : E) (i : ℕ) → pow f (f.mul x y) i ≡ f.mul (pow f x i) (pow f y i)
  pow-mul x y zero = sym (l.mul-one f.one)
  pow-mul x y (suc i) =
      ap (f.mul (f.mul x y)) (pow-mul x y i) ∙ ring₄ l (λ x y P Q. x ⊗ y ⊗ (P ⊗ Q) ≐ x ⊗ P ⊗ (y ⊗ Q)) tt x y (pow f x i) (pow f y i)

  pub pow-pow : (x : E) (i j : ℕ) → pow f (pow f x i) j ≡ pow f (pow f x j) i
  pow-pow x i zero = sym (pow-one i)
  pow-pow x i (suc j) = ap (f.mul (pow f x i)) (pow-pow x i j) ∙ sym (pow-mul x (pow f x j) i)

  -- values of parts

  value-zero : (x : E) (p : List E) → value f x (f.zero ∷ p) ≡ value f x p
  value-zero x p = ring₂ l (λ P V. O ⊗ P ⊕ V ≐ V) tt (pow f x (length p)) (value f x p)

  pub value-append : (x : E) (p q : List E) → value f x (p ++ q) ≡ f.add (f.mul (value f x p) (pow f x (length q))) (value f x q)
  value-append x [] q = ring₂ l (λ P V. V ≐ O ⊗ P ⊕ V) tt (pow f x (length q)) (value f x q)
  value-append x (c ∷ p) q =
      ap₂ (λ P V. f.add (f.mul c P) V) (ap (pow f x) (length-append p q) ∙ pow-add x (length p) (length q)) (value-append x p q)
      ∙ ring₅ l (λ c P Q V W. c ⊗ (P ⊗ Q) ⊕ (V ⊗ Q ⊕ W) ≐ (c ⊗ P ⊕ V) ⊗ Q ⊕ W) tt
      c (pow f x (length p)) (pow f x (length q)) (value f x p) (value f x q)

  pub value-snoc : (x : E) (p : List E) (c : E) → value f x (p ++ (c ∷ [])) ≡ f.add (f.mul (value f x p) x) c
  value-snoc x p c = value-append x p (c ∷ []) ∙ ring₃ l (λ V x c. V ⊗ (x ⊗ I) ⊕ (c ⊗ I ⊕ O) ≐ V ⊗ x ⊕ c) tt (value f x p) x c

  pub value-zeros : (x : E) (n : ℕ) → value f x (zeros f n) ≡ f.zero
  value-zeros x zero = refl
  value-zeros x (suc n) = value-zero x (zeros f n) ∙ value-zeros x n

  value-padded : (x : E) (n : ℕ) (p : List E) → value f x (zeros f n ++ p) ≡ value f x p
  value-padded x zero p = refl
  value-padded x (suc n) p = value-zero x (zeros f n ++ p) ∙ value-padded x n p

  value-scale : (x c : E) (p : List E) → value f x (scale f c p) ≡ f.mul c (value f x p)
  value-scale x c [] = sym (mul-zero l c)
  value-scale x c (a ∷ p) =
      ap₂ (λ (n : ℕ) v. f.add (f.mul (f.mul c a) (pow f x n)) v) (length-map p (f.mul c)) (value-scale x c p)
      ∙ ring₄ l (λ c a P V. c ⊗ a ⊗ P ⊕ c ⊗ V ≐ c ⊗ (a ⊗ P ⊕ V)) tt c a (pow f x (length p)) (value f x p)

  pub value-negs : (x : E) (p : List E) → value f x (negs f p) ≡ f.neg (value f x p)
  value-negs x [] = sym (neg-zero l)
  value-negs x (a ∷ p) =
      ap₂ (λ (n : ℕ) v. f.add (f.mul (f.neg a) (pow f x n)) v) (length-map p f.neg) (value-negs x p)
      ∙ ring₃ l (λ a P V. ⊝ a ⊗ P ⊕ ⊝ V ≐ ⊝ (a ⊗ P ⊕ V)) tt a (pow f x (length p)) (value f x p)

  -- values of sums and products

  value-over-longer : (x : E) (p q : List E) (k : ℕ) → length q ≡ length p + k
      → value f x (over f p q) ≡ f.add (f.mul (value f x p) (pow f x k)) (value f x q)
  value-over-longer x [] q k h = ring₂ l (λ P V. V ≐ O ⊗ P ⊕ V) tt (pow f x k) (value f x q)
  value-over-longer x (a ∷ p) [] k h = absurd (omega arith)
  value-over-longer x (a ∷ p) (b ∷ q) k h =
      let e : length q ≡ length p + k = omega arith in
      ap₂ (λ (n : ℕ) v. f.add (f.mul (f.add a b) (pow f x n)) v) (length_over f p q (omega arith) ∙ e) (value-over-longer x p q k e)
      ∙ ap (λ P. f.add (f.mul (f.add a b) P) (f.add (f.mul (value f x p) (pow f x k)) (value f x q))) (pow-add x (length p) k)
      ∙ ring₆ l (λ a b P K V W. (a ⊕ b) ⊗ (P ⊗ K) ⊕ (V ⊗ K ⊕ W) ≐ (a ⊗ P ⊕ V) ⊗ K ⊕ (b ⊗ (P ⊗ K) ⊕ W)) tt
      a b (pow f x (length p)) (pow f x k) (value f x p) (value f x q)
      ∙ ap (λ P. f.add (f.mul (value f x (a ∷ p)) (pow f x k)) (f.add (f.mul b P) (value f x q)))
      (sym (ap (pow f x) e ∙ pow-add x (length p) k))

  -- the sum place by place of lists of one length
  pub value-over : (x : E) (p q : List E) → length p ≡ length q → value f x (over f p q) ≡ f.add (value f x p) (value f x q)
  value-over x p q h =
      value-over-longer x p q 0 (omega arith) ∙ ring₂ l (λ V W. V ⊗ I ⊕ W ≐ V ⊕ W) tt (value f x p) (value f x q)

  pub value-plus : (x : E) (p q : List E) → value f x (plus f p q) ≡ f.add (value f x p) (value f x q)
  value-plus x p q =
      value-over x (zeros f (length q - length p) ++ p) (zeros f (length p - length q) ++ q)
      (simp (length-append, length-replicate) (omega arith))
      ∙ ap₂ f.add (value-padded x (length q - length p) p) (value-padded x (length p - length q) q)

  times-nil : (x : E) (p : List E) → value f x (times f p []) ≡ f.zero
  times-nil x [] = refl
  times-nil x (a ∷ p) = value-zero x (times f p []) ∙ times-nil x p

  pub value-times : (x : E) (p q : List E) → value f x (times f p q) ≡ f.mul (value f x p) (value f x q)
  value-times x p [] = times-nil x p ∙ sym (mul-zero l (value f x p))
  value-times x [] (b ∷ q) = value-zeros x (length q) ∙ sym (zero-mul l (value f x (b ∷ q)))
  value-times x (a ∷ p) (b ∷ q) =
      value-over-longer x (scale f a (b ∷ q)) (f.zero ∷ times f p (b ∷ q)) (length p) (omega (arith, length-times f p b q, length-map q (f.mul a)))
      ∙ ap₂ (λ u v. f.add (f.mul u (pow f x (length p))) v) (value-scale x a (b ∷ q)) (value-zero x (times f p (b ∷ q)) ∙ value-times x p (b ∷ q))
      ∙ ring₄ l (λ a V P W. a ⊗ V ⊗ P ⊕ W ⊗ V ≐ (a ⊗ P ⊕ W) ⊗ V) tt a (value f x (b ∷ q)) (pow f x (length p)) (value f x p)

  -- one coefficient made less by y
  pub value_set : (x : E) (p : List E) (k : ℕ) (y : E) → k < length p
      → value f x (set p k (f.add (get_or p k f.zero) (f.neg y))) ≡ f.add (value f x p) (f.neg (f.mul y (pow f x (length p - 1 - k))))
  value_set x [] k y h = absurd (omega arith)
  value_set x (c ∷ p) zero y h =
      ring₄ l (λ c y P V. (c ⊕ ⊝ y) ⊗ P ⊕ V ≐ (c ⊗ P ⊕ V) ⊕ ⊝ (y ⊗ P)) tt c y (pow f x (length p)) (value f x p)
      ∙ ap (λ (n : ℕ). f.add (value f x (c ∷ p)) (f.neg (f.mul y (pow f x n)))) same
    where
      same : length p ≡ suc (length p) - 1 - 0
      same = omega arith
  value_set x (c ∷ p) (suc k) y h =
      ap₂ (λ (n : ℕ) v. f.add (f.mul c (pow f x n)) v) (length-set p k (f.add (get_or p k f.zero) (f.neg y))) (value_set x p k y (omega arith))
      ∙ sym (l.add_assoc (f.mul c (pow f x (length p))) (value f x p) (f.neg (f.mul y (pow f x (length p - 1 - k)))))
      ∙ ap (λ (n : ℕ). f.add (value f x (c ∷ p)) (f.neg (f.mul y (pow f x n)))) same
    where
      same : length p - 1 - k ≡ suc (length p) - 1 - suc k
      same = omega arith

  -- Horner's rule gives the value

  horner_from : (x : E) (p : List E) (c : E) → horner f x p c ≡ f.add (f.mul c (pow f x (length p))) (value f x p)
  horner_from x [] c = ring₁ l (λ a. a ≐ a ⊗ I ⊕ O) tt c
  horner_from x (a ∷ p) c =
      horner_from x p (f.add (f.mul c x) a)
      ∙ ring₅ l (λ c x a P V. (c ⊗ x ⊕ a) ⊗ P ⊕ V ≐ c ⊗ (x ⊗ P) ⊕ (a ⊗ P ⊕ V)) tt c x a (pow f x (length p)) (value f x p)

  pub value-horner : (x c : E) (p : List E) → value f x (c ∷ p) ≡ horner f x p c
  value-horner x c p = sym (horner_from x p c)

  -- the same polynomial has the same values

  low_reverse : (x : E) (p r : List E) → horner f x p (low f x r) ≡ low f x (reverse_aux p r)
  unfolding low
  low_reverse x [] r = refl
  low_reverse x (c ∷ p) r = low_reverse x p (c ∷ r)

  value_low : (x : E) (p : List E) → value f x p ≡ low f x (reverse p)
  unfolding low
  value_low x p =
      ring₂ l (λ P V. V ≐ O ⊗ P ⊕ V) tt (pow f x (length p)) (value f x p) ∙ sym (horner_from x p f.zero) ∙ low_reverse x p []

  low_same : (x : E) (p q : List E) → ((k : ℕ) → get_or p k f.zero ≡ get_or q k f.zero) → low f x p ≡ low f x q
  unfolding low
  low_same x [] [] h = refl
  low_same x [] (b ∷ q) h =
      ring₁ l (λ x. O ≐ O ⊗ x ⊕ O) tt x ∙ ap₂ (λ u v. f.add (f.mul u x) v) (low_same x [] q (λ k. h (suc k))) (h 0)
  low_same x (a ∷ p) [] h =
      ap₂ (λ u v. f.add (f.mul u x) v) (low_same x p [] (λ k. h (suc k))) (h 0) ∙ ring₁ l (λ x. O ⊗ x ⊕ O ≐ O) tt x
  low_same x (a ∷ p) (b ∷ q) h = ap₂ (λ u v. f.add (f.mul u x) v) (low_same x p q (λ k. h (suc k))) (h 0)

  pub same_values : (x : E) (p q : List E) → Same f p q → value f x p ≡ value f x q
  same_values x p q s = value_low x p ∙ low_same x (reverse p) (reverse q) s ∙ sym (value_low x q)
