-- Codewords by their syndromes, and how far apart they are.
use Rattle.std.proofs.Common.{◌≡◌, ℕ, zero, suc, ◌+◌, ◌*◌, ◌<◌, ◌≤◌, Bool, true, false, cond, List, [], ◌∷◌, ◌++◌, length, sym, refl, ap, ◌∙◌, subst, ap₂, ⊎_elim, true≢false, arith, length-append}
use lib.ListN.{length-map, length-replicate}
use Rattle.std.proofs.lemmas.Bool.{cases_lt}
use Rattle.gf.specs.Theory.{Operations, Laws, pow}
use Rattle.codes.specs.Polynomials.{zeros, value, scale, negs, over, times, coefficient}
use Rattle.codes.specs.Codewords.{Fresh, Apart, generator, Codeword, syndrome, distance, power_sum, SyndromesDecide, MinimumDistance}
use Rattle.codes.specs.steps.Decoding.{weight}
use Rattle.codes.proofs.Elements.{zero-mul, mul-zero, equal_of, equal_agree}
use Rattle.codes.proofs.Lists.{cons, length_over, length-times, times_assoc, times-one}
use Rattle.codes.proofs.Same.{leading}
use Rattle.codes.proofs.Ring.{O, I, ◌⊕◌, ◌⊗◌, ⊝◌, ◌≐◌, ring₁, ring₂, ring₃}
use Rattle.codes.proofs.Values.{horner, value-horner, pow-pow, value-append, value-zeros, value-times, value-over, value-negs, same_values}
use Rattle.codes.proofs.PowerSums.{no_divisors, apart_minus, less, length-less, zero-less, few}

module _ {E : Type 0} (f : Operations E) where
  -- x - b
  abbrev pub linear : E → List E
  linear b = f.one ∷ f.neg b ∷ []

  -- what Horner's rule passes through at b is the quotient by x - b
  abbrev passed : E → E → List E → List E
  passed b so_far [] = []
  passed b so_far (c ∷ cs) = so_far ∷ passed b (f.add (f.mul so_far b) c) cs

  length-passed : (b c : E) (cs : List E) → length (passed b c cs) ≡ length cs
  length-passed b c [] = refl
  length-passed b c (d ∷ cs) = ap suc (length-passed b (f.add (f.mul c b) d) cs)

  -- the points of the places of a word of n symbols
  abbrev pub points : ℕ → List E
  points zero = []
  points (suc n) = pow f f.root n ∷ points n

  pub length-points : (n : ℕ) → length (points n) ≡ n
  length-points zero = refl
  length-points (suc n) = ap suc (length-points n)

module _ {E : Type 0} {f : Operations E} (l : Laws f) where
  pub value-linear : (x b : E) → value f x (linear f b) ≡ f.add x (f.neg b)
  value-linear x b = ring₂ l (λ x b. I ⊗ (x ⊗ I) ⊕ (⊝ b ⊗ I ⊕ O) ≐ x ⊕ ⊝ b) tt x b

  passed-times : (b c : E) (cs : List E) → horner f b cs c ≡ f.zero → times f (passed f b c cs) (linear f b) ≡ c ∷ cs
  passed-times b c [] e = cons (sym e) refl
  passed-times b c (d ∷ cs) e =
      ap (λ z. over f (scale f c (linear f b)) (f.zero ∷ z)) (passed-times b (f.add (f.mul c b) d) cs e)
      ∙ cons (ring₁ l (λ a. a ⊗ I ⊕ O ≐ a) tt c) (cons (ring₃ l (λ a b c. a ⊗ ⊝ b ⊕ (a ⊗ b ⊕ c) ≐ c) tt c b d) refl)

  -- a polynomial that is zero at b has the factor x - b
  pub factor : (b c : E) (cs : List E) → value f b (c ∷ cs) ≡ f.zero
      → (q : List E) × (length q ≡ length cs) × (times f q (linear f b) ≡ c ∷ cs)
  factor b c cs e = (passed f b c cs, length-passed f b c cs, passed-times b c cs (sym (value-horner l b c cs) ∙ e))

  -- the generator begins with one
  pub generator-cons : (r : ℕ) → (g : List E) × (generator f r ≡ f.one ∷ g) × (length g ≡ r)
  generator-cons zero = ([], refl, refl)
  generator-cons (suc r) =
      let c = generator-cons r in
      let b = pow f f.root r in (
        over f (scale f f.one (f.neg b ∷ [])) (times f c.0 (linear f b)),
        ap (λ g. times f g (linear f b)) c.1 ∙ cons (ring₁ l (λ x. I ⊗ I ⊕ O ≐ I) tt f.one) refl,
        length_over f (scale f f.one (f.neg b ∷ [])) (times f c.0 (linear f b)) (omega (arith, length-times f c.0 f.one (f.neg b ∷ []), c.2))
            ∙ omega (arith, length-times f c.0 f.one (f.neg b ∷ []), c.2),
      )

  -- the generator is zero at the first r powers of the root
  pub generator-value : (r i : ℕ) → i < r → value f (pow f f.root i) (generator f r) ≡ f.zero
  generator-value zero i h = absurd (omega arith)
  generator-value (suc r) i h =
      value-times l x (generator f r) (linear f (pow f f.root r))
      ∙ ⊎_elim (λ (k : i < r). ap (λ z. f.mul z (value f x (linear f (pow f f.root r)))) (generator-value r i k) ∙ zero-mul l _)
      (λ (k : r ≤ i). ap (f.mul (value f x (generator f r))) (value-linear x (pow f f.root r)
      ∙ ap (λ (j : ℕ). f.add x (f.neg (pow f f.root j))) (last k) ∙ l.add-neg x) ∙ mul-zero l _) (cases_lt i r)
    where
      x : E
      x = pow f f.root i

      last : r ≤ i → r ≡ i
      last k = omega arith

  pub codeword_syndromes : (r : ℕ) (w : List E) → Codeword f r w → (i : ℕ) → i < r → syndrome f w i ≡ f.zero
  codeword_syndromes r w c i h =
      same_values l (pow f f.root i) w (times f c.0 (generator f r)) c.1
      ∙ value-times l (pow f f.root i) c.0 (generator f r)
      ∙ ap (f.mul (value f (pow f f.root i) c.0)) (generator-value r i h) ∙ mul-zero l _

  generator-times : (r : ℕ) (q : List E) → times f q (generator f (suc r)) ≡ times f (times f q (generator f r)) (linear f (pow f f.root r))
  generator-times r q =
      let g = generator-cons r in
      subst (λ p. times f q (times f p (linear f (pow f f.root r))) ≡ times f (times f q p) (linear f (pow f f.root r))) (sym g.1)
      (sym (times_assoc l q f.one g.0 f.one (f.neg (pow f f.root r) ∷ [])))

  -- a word whose first r syndromes are zero is a product with the generator
  divides : (r : ℕ) (w : List E) → r ≤ length w → r ≤ f.reach → ((i : ℕ) → i < r → syndrome f w i ≡ f.zero)
      → (q : List E) × (times f q (generator f r) ≡ w)
  divides zero w h k z = (w, times-one l w)
  divides (suc r) [] h k z = absurd (omega arith)
  divides (suc r) (c ∷ cs) h k z = more (factor (pow f f.root r) c cs (z r (omega arith))) (λ q. divides r q)
    where
      b : E
      b = pow f f.root r

      far : (i : ℕ) → i < r → b ≡ pow f f.root i → ⊥
      far i m e = omega (arith, l.powers-differ r i (omega arith) (omega arith) e)

      more : (q : List E) × (length q ≡ length cs) × (times f q (linear f b) ≡ c ∷ cs)
          → ((q : List E) → r ≤ length q → r ≤ f.reach → ((i : ℕ) → i < r → syndrome f q i ≡ f.zero) → (p : List E) × (times f p (generator f r) ≡ q))
          → (q : List E) × (times f q (generator f (suc r)) ≡ c ∷ cs)
      more d ih = last (ih d.0 (omega (arith, d.1)) (omega arith) smaller)
        where
          smaller : (i : ℕ) → i < r → syndrome f d.0 i ≡ f.zero
          smaller i m =
              no_divisors l (syndrome f d.0 i) (syndrome f (linear f b) i)
              (sym (value-times l (pow f f.root i) d.0 (linear f b)) ∙ ap (value f (pow f f.root i)) d.2 ∙ z i (omega arith))
              (λ e. apart_minus l b (pow f f.root i) (far i m) (sym (value-linear (pow f f.root i) b) ∙ e))

          last : (p : List E) × (times f p (generator f r) ≡ d.0) → (q : List E) × (times f q (generator f (suc r)) ≡ c ∷ cs)
          last s = (s.0, generator-times r s.0 ∙ ap (λ q. times f q (linear f b)) s.1 ∙ d.2)

  -- zeros in front, as many as there are checks, make every word long enough, and change neither its values nor the polynomial
  pub syndromes_decide : SyndromesDecide f
  syndromes_decide r w k = (codeword_syndromes r w, divided)
    where
      longer : List E
      longer = zeros f r ++ w

      long : r ≤ length longer
      long = omega (arith, length-append (zeros f r) w, length-replicate r f.zero)

      front : (x : E) → value f x longer ≡ value f x w
      front x =
          value-append l x (zeros f r) w
          ∙ ap (λ y. f.add (f.mul y (pow f x (length w))) (value f x w)) (value-zeros l x r)
          ∙ ring₂ l (λ y v. O ⊗ y ⊕ v ≐ v) tt (pow f x (length w)) (value f x w)

      divided : ((i : ℕ) → i < r → syndrome f w i ≡ f.zero) → Codeword f r w
      divided z =
          let d = divides r longer long k (λ i h. front (pow f f.root i) ∙ z i h) in
          (d.0, λ j. sym (leading f r w j) ∙ ap (λ p. coefficient f p j) (sym d.1))

  -- syndromes as sums of powers of the points of the places

  pub syndrome-sum : (w : List E) (i : ℕ) → syndrome f w i ≡ power_sum f w (points f (length w)) i
  syndrome-sum [] i = refl
  syndrome-sum (c ∷ w) i = ap₂ (λ u v. f.add (f.mul c u) v) (pow-pow l f.root i (length w)) (syndrome-sum w i)

  fresh-points : (n m : ℕ) → m ≤ n → n < f.reach → Fresh (pow f f.root n) (points f m)
  fresh-points n zero h k = tt
  fresh-points n (suc m) h k = ((λ e. no (l.powers-differ n m k (omega arith) e)), fresh-points n m (omega arith) k)
    where
      no : n ≡ m → ⊥
      no e = omega arith

  pub apart-points : (n : ℕ) → n ≤ f.reach → Apart (points f n)
  apart-points zero h = tt
  apart-points (suc n) h = (fresh-points n n (omega arith) h, apart-points n (omega arith))

  -- the differences of two words

  syndrome-less : (u v : List E) (i : ℕ) → length u ≡ length v → syndrome f (less f u v) i ≡ f.add (syndrome f u i) (f.neg (syndrome f v i))
  syndrome-less u v i e =
      value-over l (pow f f.root i) u (negs f v) (e ∙ sym (length-map v f.neg))
      ∙ ap (f.add (syndrome f u i)) (value-negs l (pow f f.root i) v)

  same_test : (a b : E) → f.equal (f.add a (f.neg b)) f.zero ≡ f.equal a b
  same_test a b =
      equal_agree l (f.add a (f.neg b)) f.zero a b (equal_of l a b) (λ e. ap (λ z. f.add z (f.neg b)) e ∙ l.add-neg b)

  pub weight-less : (u v : List E) → length u ≡ length v → weight f (less f u v) ≡ distance f u v
  weight-less [] [] e = refl
  weight-less [] (b ∷ v) e = absurd (omega arith)
  weight-less (a ∷ u) [] e = absurd (omega arith)
  weight-less (a ∷ u) (b ∷ v) e = ap₂ (λ (c : Bool) (n : ℕ). cond c n (suc n)) (same_test a b) (weight-less u v (omega arith))

  pub minimum_distance : MinimumDistance f
  minimum_distance r u v e n c d h =
      zero-less l u v e (few l (points f (length (less f u v))) (less f u v) r
      (sym (length-points f (length (less f u v)))) (apart-points (length (less f u v)) (omega (arith, length-less f u v e)))
      (omega (arith, weight-less u v e))
      (λ i k. sym (syndrome-sum (less f u v) i) ∙ syndrome-less u v i e
      ∙ ap₂ (λ x y. f.add x (f.neg y)) (codeword_syndromes r u c i k) (codeword_syndromes r v d i k) ∙ l.add-neg f.zero))

  distance_triangle : (w u v : List E) → length u ≡ length w → length v ≡ length w → distance f u v ≤ distance f w u + distance f w v
  distance_triangle [] [] v e h = omega arith
  distance_triangle [] (a ∷ u) v e h = absurd (omega arith)
  distance_triangle (c ∷ w) [] v e h = absurd (omega arith)
  distance_triangle (c ∷ w) (a ∷ u) [] e h = absurd (omega arith)
  distance_triangle (c ∷ w) (a ∷ u) (b ∷ v) e h =
      by (f.equal c a) (f.equal c b) (f.equal a b) (λ p q. l.equal_yes a b (sym (l.equal_no c a p) ∙ l.equal_no c b q))
      (distance_triangle w u v (omega arith) (omega arith))
    where
      by : (x y z : Bool) → (x ≡ true → y ≡ true → z ≡ true) → distance f u v ≤ distance f w u + distance f w v
          → cond z (distance f u v) (suc (distance f u v)) ≤ cond x (distance f w u) (suc (distance f w u)) + cond y (distance f w v) (suc (distance f w v))
      by true true true i h = h
      by true true false i h = absurd (true≢false (sym (i refl refl)))
      by true false true i h = omega arith
      by true false false i h = omega arith
      by false true true i h = omega arith
      by false true false i h = omega arith
      by false false true i h = omega arith
      by false false false i h = omega arith

  -- no two codewords are within r / 2 places of a word
  pub unique : (r : ℕ) (w u v : List E) → length u ≡ length w → length v ≡ length w → length w ≤ f.reach
      → Codeword f r u → Codeword f r v → distance f w u * 2 ≤ r → distance f w v * 2 ≤ r → u ≡ v
  unique r w u v e h n c d i k =
      minimum_distance r u v (e ∙ sym h) (omega arith) c d (omega (arith, distance_triangle w u v e h))
