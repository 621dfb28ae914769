-- Sums of powers at different points: where the first of them are zero, so are the coefficients, and where they agree, so do these.
use Rattle.std.proofs.Common.{◌≡◌, ℕ, zero, suc, ◌-◌, ◌<◌, ◌≤◌, Bool, true, false, cond, List, [], ◌∷◌, length, sym, refl, ap, ◌∙◌, ap₂, true≢false, arith}
use lib.ListN.{length-map}
use Rattle.gf.specs.Theory.{Operations, Laws, pow}
use Rattle.codes.specs.Polynomials.{zeros, negs, over}
use Rattle.codes.specs.Codewords.{Fresh, Apart, power_sum, Vandermonde}
use Rattle.codes.specs.steps.Decoding.{weight}
use Rattle.codes.proofs.Elements.{zero-mul, equal_of}
use Rattle.codes.proofs.Lists.{cons, length_over}
use Rattle.codes.proofs.Ring.{O, I, ◌⊕◌, ◌⊗◌, ⊝◌, ◌≐◌, ring₁, ring₂, ring₅, ring₆}

module _ {E : Type 0} (f : Operations E) where
  -- all of them are zero
  abbrev pub Zero : List E → Type 0
  Zero [] = Unit {0}
  Zero (c ∷ cs) = (c ≡ f.zero) × Zero cs

  pub zero-list : (cs : List E) → Zero cs → cs ≡ zeros f (length cs)
  zero-list [] z = refl
  zero-list (c ∷ cs) z = cons z.0 (zero-list cs z.1)

  pub zero-zeros : (n : ℕ) → Zero (zeros f n)
  zero-zeros zero = tt
  zero-zeros (suc n) = (refl, zero-zeros n)

  -- each c times what its x gives
  unfoldable pub each : (E → E) → List E → List E → List E
  each g [] xs = []
  each g (c ∷ cs) [] = []
  each g (c ∷ cs) (x ∷ xs) = f.mul c (g x) ∷ each g cs xs

  pub length-each : (g : E → E) (cs xs : List E) → length cs ≡ length xs → length (each g cs xs) ≡ length xs
  unfolding each
  length-each g [] xs h = h
  length-each g (c ∷ cs) [] h = refl
  length-each g (c ∷ cs) (x ∷ xs) h = ap suc (length-each g cs xs (omega arith))

  -- x less a
  abbrev by : E → E → E
  by a x = f.add x (f.neg a)

  -- the differences place by place
  abbrev pub less : List E → List E → List E
  less u v = over f u (negs f v)

  pub length-less : (u v : List E) → length u ≡ length v → length (less u v) ≡ length u
  length-less u v e = length_over f u (negs f v) (omega (arith, length-map v f.neg)) ∙ length-map v f.neg ∙ sym e

module _ {E : Type 0} {f : Operations E} (l : Laws f) where
  -- no divisors of zero
  pub no_divisors : (c d : E) → f.mul c d ≡ f.zero → (d ≡ f.zero → ⊥) → c ≡ f.zero
  no_divisors c d e h =
      sym (l.mul-one c) ∙ ap (f.mul c) (sym (l.mul-inv d h)) ∙ sym (l.mul_assoc c d (f.inv d)) ∙ ap (λ z. f.mul z (f.inv d)) e ∙ zero-mul l (f.inv d)

  -- the difference of two that are not equal is not zero
  pub apart_minus : (x y : E) → (x ≡ y → ⊥) → f.add y (f.neg x) ≡ f.zero → ⊥
  apart_minus x y h e = h (sym (equal_of l y x e))

  -- a test that fails
  pub unequal : (x y : E) → f.equal x y ≡ false → x ≡ y → ⊥
  unequal x y n e = true≢false (sym (l.equal_yes x y e) ∙ n)

  power_sum-each : (a : E) (cs xs : List E) (i : ℕ)
      → power_sum f (each f (by f a) cs xs) xs i ≡ f.add (power_sum f cs xs (suc i)) (f.neg (f.mul a (power_sum f cs xs i)))
  unfolding each
  power_sum-each a [] xs i = ring₁ l (λ a. O ≐ O ⊕ ⊝ (a ⊗ O)) tt a
  power_sum-each a (c ∷ cs) [] i = ring₁ l (λ a. O ≐ O ⊕ ⊝ (a ⊗ O)) tt a
  power_sum-each a (c ∷ cs) (x ∷ xs) i =
      ap (f.add (f.mul (f.mul c (f.add x (f.neg a))) (pow f x i))) (power_sum-each a cs xs i)
      ∙ ring₆ l (λ a c x P M N. c ⊗ (x ⊕ ⊝ a) ⊗ P ⊕ (M ⊕ ⊝ (a ⊗ N)) ≐ (c ⊗ (x ⊗ P) ⊕ M) ⊕ ⊝ (a ⊗ (c ⊗ P ⊕ N))) tt
      a c x (pow f x i) (power_sum f cs xs (suc i)) (power_sum f cs xs i)

  weight-zero : (c : E) (cs : List E) → c ≡ f.zero → weight f (c ∷ cs) ≡ weight f cs
  weight-zero c cs e = ap (λ (b : Bool). cond b (weight f cs) (suc (weight f cs))) (l.equal_yes c f.zero e)

  weight-cons : (c : E) (cs : List E) → weight f (c ∷ cs) ≤ suc (weight f cs)
  weight-cons c cs = by (f.equal c f.zero)
    where
      by : (b : Bool) → cond b (weight f cs) (suc (weight f cs)) ≤ suc (weight f cs)
      by true = omega arith
      by false = omega arith

  pub weight-each : (g : E → E) (cs xs : List E) → weight f (each f g cs xs) ≤ weight f cs
  unfolding each
  weight-each g [] xs = omega arith
  weight-each g (c ∷ cs) [] = omega arith
  weight-each g (c ∷ cs) (x ∷ xs) = go (f.equal c f.zero) refl (weight-each g cs xs)
    where
      go : (b : Bool) → f.equal c f.zero ≡ b → weight f (each f g cs xs) ≤ weight f cs
          → weight f (f.mul c (g x) ∷ each f g cs xs) ≤ cond b (weight f cs) (suc (weight f cs))
      go true e h =
          omega (arith, weight-zero (f.mul c (g x)) (each f g cs xs) (ap (λ z. f.mul z (g x)) (l.equal_no c f.zero e) ∙ zero-mul l (g x)))
      go false e h = omega (arith, weight-cons (f.mul c (g x)) (each f g cs xs))

  zero-each : (a : E) (cs xs : List E) → length cs ≡ length xs → Fresh a xs → Zero f (each f (by f a) cs xs) → Zero f cs
  unfolding each
  zero-each a [] xs long n z = tt
  zero-each a (c ∷ cs) [] long n z = absurd (omega arith)
  zero-each a (c ∷ cs) (x ∷ xs) long n z =
      (no_divisors c (f.add x (f.neg a)) z.0 (apart_minus a x n.0), zero-each a cs xs (omega arith) n.1 z.1)

  pub power_sum-zero : (cs xs : List E) (i : ℕ) → Zero f cs → power_sum f cs xs i ≡ f.zero
  power_sum-zero [] xs i z = refl
  power_sum-zero (c ∷ cs) [] i z = refl
  power_sum-zero (c ∷ cs) (x ∷ xs) i z =
      ap₂ (λ u v. f.add (f.mul u (pow f x i)) v) z.0 (power_sum-zero cs xs i z.1) ∙ ring₁ l (λ P. O ⊗ P ⊕ O ≐ O) tt (pow f x i)

  -- where at most r are not zero and the first r sums are, all are zero
  pub few : (xs cs : List E) (r : ℕ) → length cs ≡ length xs → Apart xs → weight f cs ≤ r
      → ((i : ℕ) → i < r → power_sum f cs xs i ≡ f.zero) → Zero f cs
  few [] [] r long a w s = tt
  few [] (c ∷ cs) r long a w s = absurd (omega arith)
  few (x ∷ xs) [] r long a w s = tt
  few (x ∷ xs) (c ∷ cs) r long a w s = go (f.equal c f.zero) refl w (λ ds k. few xs ds k)
    where
      go : (b : Bool) → f.equal c f.zero ≡ b → cond b (weight f cs) (suc (weight f cs)) ≤ r
          → ((ds : List E) (k : ℕ) → length ds ≡ length xs → Apart xs → weight f ds ≤ k
          → ((i : ℕ) → i < k → power_sum f ds xs i ≡ f.zero) → Zero f ds)
          → Zero f (c ∷ cs)
      go true e w ih =
          let z = l.equal_no c f.zero e in (
            z,
            ih cs r (omega arith) a.1 w (λ i h.
                ring₂ l (λ P M. M ≐ O ⊗ P ⊕ M) tt (pow f x i) (power_sum f cs xs i)
                ∙ ap (λ d. f.add (f.mul d (pow f x i)) (power_sum f cs xs i)) (sym z) ∙ s i h),
          )
      go false e w ih = (head rest, rest)
        where
          rest : Zero f cs
          rest =
              zero-each x cs xs (omega arith) a.0
              (ih (each f (by f x) cs xs) (r - 1) (length-each f (by f x) cs xs (omega arith)) a.1 (omega (arith, weight-each (by f x) cs xs)) (λ i h.
              power_sum-each x cs xs i
              ∙ ring₅ l (λ c x P M N. M ⊕ ⊝ (x ⊗ N) ≐ (c ⊗ (x ⊗ P) ⊕ M) ⊕ ⊝ (x ⊗ (c ⊗ P ⊕ N))) tt c x (pow f x i) (power_sum f cs xs (suc i)) (power_sum f cs xs i)
              ∙ ap₂ (λ u v. f.add u (f.neg (f.mul x v))) (s (suc i) (omega arith)) (s i (omega arith))
              ∙ ring₁ l (λ x. O ⊕ ⊝ (x ⊗ O) ≐ O) tt x))

          head : Zero f cs → c ≡ f.zero
          head z =
              ring₁ l (λ c. c ≐ c ⊗ I ⊕ O) tt c ∙ ap (f.add (f.mul c f.one)) (sym (power_sum-zero cs xs 0 z)) ∙ s 0 (omega arith)

  pub weight-length : (cs : List E) → weight f cs ≤ length cs
  weight-length [] = omega arith
  weight-length (c ∷ cs) = omega (arith, weight-cons c cs, weight-length cs)

  pub vandermonde : Vandermonde f
  vandermonde cs xs long a s = zero-list f cs (few xs cs (length xs) long a (omega (arith, weight-length cs)) s)

  -- lists with the same sums

  pub zero-less : (u v : List E) → length u ≡ length v → Zero f (less f u v) → u ≡ v
  zero-less [] [] e z = refl
  zero-less [] (b ∷ v) e z = absurd (omega arith)
  zero-less (a ∷ u) [] e z = absurd (omega arith)
  zero-less (a ∷ u) (b ∷ v) e z = cons (equal_of l a b z.0) (zero-less u v (omega arith) z.1)

  power_sum-less : (ys zs xs : List E) (i : ℕ) → length ys ≡ length zs
      → power_sum f (less f ys zs) xs i ≡ f.add (power_sum f ys xs i) (f.neg (power_sum f zs xs i))
  power_sum-less [] [] xs i e = sym (l.add-neg f.zero)
  power_sum-less [] (z ∷ zs) xs i e = absurd (omega arith)
  power_sum-less (y ∷ ys) [] xs i e = absurd (omega arith)
  power_sum-less (y ∷ ys) (z ∷ zs) [] i e = sym (l.add-neg f.zero)
  power_sum-less (y ∷ ys) (z ∷ zs) (x ∷ xs) i e =
      ap (f.add (f.mul (f.add y (f.neg z)) (pow f x i))) (power_sum-less ys zs xs i (omega arith))
      ∙ ring₅ l (λ y z P M N. (y ⊕ ⊝ z) ⊗ P ⊕ (M ⊕ ⊝ N) ≐ (y ⊗ P ⊕ M) ⊕ ⊝ (z ⊗ P ⊕ N)) tt
      y z (pow f x i) (power_sum f ys xs i) (power_sum f zs xs i)

  -- the coefficients at different points are known by as many sums of powers
  pub solved : (xs ys zs : List E) → length ys ≡ length xs → length zs ≡ length xs → Apart xs
      → ((i : ℕ) → i < length xs → power_sum f ys xs i ≡ power_sum f zs xs i) → ys ≡ zs
  solved xs ys zs e h a s =
      zero-less ys zs (e ∙ sym h) (few xs (less f ys zs) (length xs) long a (omega (arith, long, weight-length (less f ys zs)))
      (λ i k.
      power_sum-less ys zs xs i (e ∙ sym h) ∙ ap (λ u. f.add u (f.neg (power_sum f zs xs i))) (s i k) ∙ l.add-neg (power_sum f zs xs i)))
    where
      long : length (less f ys zs) ≡ length xs
      long = length-less f ys zs (e ∙ sym h) ∙ e
