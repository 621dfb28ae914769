-- What solves the equations for the locator and for the values: sums of an elimination as recurrences and as power sums.
use borrow.Author.Count.{below_more}
use Rattle.std.proofs.Common.{◌≡◌, ℕ, zero, suc, ◌+◌, ◌-◌, ◌<◌, List, [], ◌∷◌, ◌++◌, map, length, get_or, take, sym, refl, ap, ◌∙◌, ap₂, arith, length-take-le, get_or-take}
use mathlib.Core.List.{map-append}
use lib.ListN.{length-map, get_or-replicate}
use Rattle.std.proofs.lemmas.List.{get_or_append_left, take-map}
use Rattle.gf.specs.Theory.{Operations, Laws, pow}
use Rattle.codes.specs.Codewords.{Apart, power_sum}
use Rattle.codes.specs.steps.Elimination.{entries, sum, sent, Kernel}
use Rattle.codes.specs.steps.Decoding.{recurrence, Locator, Recurring, Columns, Normalized}
use Rattle.codes.proofs.Elements.{zero-mul, add-mul}
use Rattle.codes.proofs.Ring.{O, I, ◌⊕◌, ◌⊗◌, ⊝◌, ◌≐◌, ring₂, ring₄}
use Rattle.codes.proofs.Linear.{sent_more, sent_vector}
use Rattle.codes.proofs.PowerSums.{vandermonde}

module _ {E : Type 0} {f : Operations E} (l : Laws f) where
  sum_front : (n : ℕ) (u : ℕ → E) → sum f (suc n) u ≡ f.add (u 0) (sum f n (λ k. u (suc k)))
  unfolding sum
  sum_front zero u = l.add_comm f.zero (u 0)
  sum_front (suc n) u =
      ap (λ s. f.add s (u (suc n))) (sum_front n u) ∙ l.add_assoc (u 0) (sum f n (λ k. u (suc k))) (u (suc n))

  sum-times : (n : ℕ) (u : ℕ → E) (q : E) → sum f n (λ k. f.mul (u k) q) ≡ f.mul (sum f n u) q
  unfolding sum
  sum-times zero u q = sym (zero-mul l q)
  sum-times (suc n) u q = ap (λ s. f.add s (f.mul (u n) q)) (sum-times n u q) ∙ sym (add-mul l (sum f n u) (u n) q)

  recurrence-sum : (p : List E) (s : ℕ → E) (i : ℕ) (u : ℕ → E)
      → ((j : ℕ) → j < length p → u j ≡ f.mul (s (i + (length p - 1 - j))) (get_or p j f.zero)) → recurrence f p s i ≡ sum f (length p) u
  unfolding sum
  recurrence-sum [] s i u h = refl
  recurrence-sum (c ∷ p) s i u h =
      let first : i + length p ≡ i + (suc (length p) - 1 - 0) = omega arith in
      ap₂ f.add (l.mul_comm c (s (i + length p)) ∙ ap (λ (k : ℕ). f.mul (s k) c) first ∙ sym (h 0 (omega arith)))
      (recurrence-sum p s i (λ j. u (suc j)) (λ j b.
      let later : i + (suc (length p) - 1 - suc j) ≡ i + (length p - 1 - j) = omega arith in
      h (suc j) (omega arith) ∙ ap (λ (k : ℕ). f.mul (s k) (get_or p j f.zero)) later))
      ∙ sym (sum_front (length p) u)

  power_sum-sum : (cs xs : List E) (i : ℕ) (u : ℕ → E) → length cs ≡ length xs
      → ((k : ℕ) → k < length xs → u k ≡ f.mul (pow f (get_or xs k f.zero) i) (get_or cs k f.zero)) → power_sum f cs xs i ≡ sum f (length xs) u
  unfolding sum
  power_sum-sum [] [] i u e h = refl
  power_sum-sum [] (x ∷ xs) i u e h = absurd (omega arith)
  power_sum-sum (c ∷ cs) [] i u e h = absurd (omega arith)
  power_sum-sum (c ∷ cs) (x ∷ xs) i u e h =
      ap₂ f.add (l.mul_comm c (pow f x i) ∙ sym (h 0 (omega arith)))
      (power_sum-sum cs xs i (λ k. u (suc k)) (omega arith) (λ k b. h (suc k) (omega arith)))
      ∙ sym (sum_front (length xs) u)

  -- a vector with the same entries is sent to zero as well
  kernel-same : (m w : ℕ) (a : ℕ → ℕ → E) (v u : ℕ → E) → ((j : ℕ) → j < w → u j ≡ v j) → Kernel f m w a v → Kernel f m w a u
  kernel-same m w a v u e k = record {
    some = λ z. k.some (λ j h. sym (e j h) ∙ z j h);
    kills = λ i h. sent_vector l w a i v u e ∙ k.kills i h;
  }

  module _ {S : Type 0} (mean : S → E) where
    -- what is written to the front of a vector is the kernel of the whole
    pub kernel_front : (m w : ℕ) (a : ℕ → ℕ → E) (xs ys : List S) → length xs ≡ w → Kernel f m w a (entries f mean xs) → Kernel f m w a (entries f mean (xs ++ ys))
    unfolding entries
    kernel_front m w a xs ys e k =
        kernel-same m w a (entries f mean xs) (entries f mean (xs ++ ys))
        (λ j h. ap (λ l. get_or l j f.zero) (map-append mean xs ys) ∙ get_or_append_left (map mean xs) (map mean ys) f.zero j (omega (arith, length-map xs mean))) k

    -- a vector that solves the rows of syndromes is a locator
    pub locator_solved : (t : ℕ) (s : ℕ → E) (a : ℕ → ℕ → E) (xs : List S) → length xs ≡ t + 1
        → Recurring f t s t a → Kernel f t (t + 1) a (entries f mean xs) → Locator f t s (map mean xs)
    unfolding entries sent
    locator_solved t s a xs long rows kernel = record {
      long = length-map xs mean ∙ long ∙ one;
      some = λ z. kernel.some (λ j b. ap (λ p. get_or p j f.zero) z ∙ get_or-replicate (suc t) j f.zero f.zero (omega arith));
      recurs = λ i b.
          recurrence-sum (map mean xs) s i (λ j. f.mul (a i j) (get_or (map mean xs) j f.zero))
          (λ j k. ap (λ x. f.mul x (get_or (map mean xs) j f.zero)) (rows i j b (omega (arith, length-map xs mean)) ∙ ap s (index i j)))
          ∙ ap (λ (n : ℕ). sum f n (λ j. f.mul (a i j) (get_or (map mean xs) j f.zero))) (length-map xs mean ∙ long) ∙ kernel.kills i b;
    }
      where
        one : t + 1 ≡ suc t
        one = omega arith

        index : (i j : ℕ) → i + (t - j) ≡ i + (length (map mean xs) - 1 - j)
        index i j = omega (arith, length-map xs mean, long)

    -- what solves the equations of the power sums, brought to minus one at its end, are values with these power sums
    module _ (m : ℕ) (xs : List E) (s : ℕ → E) (a : ℕ → ℕ → E) (vector values : List S)
        (many : length xs ≡ m) (long : m < length vector) (wide : m < length values) (apart : Apart xs)
        (columns : Columns f m (λ k. get_or xs k f.zero) m a) (sums : (i : ℕ) → i < m → a i m ≡ s i)
        (kernel : Kernel f m (m + 1) a (entries f mean vector)) where
      v : ℕ → E
      v k = get_or (map mean vector) k f.zero

      before : List E
      before = take m (map mean vector)

      solved_at : (i : ℕ) → i < m → f.add (sum f m (λ k. f.mul (a i k) (v k))) (f.mul (s i) (v m)) ≡ f.zero
      unfolding entries sent v
      solved_at i b =
          ap (λ x. f.add (sum f m (λ k. f.mul (a i k) (v k))) (f.mul x (v m))) (sym (sums i b))
          ∙ sym (sent_more l m a i (entries f mean vector)) ∙ kernel.kills i b

      length_before : length before ≡ m
      unfolding before
      length_before = length-take-le m (map mean vector) (omega (arith, length-map vector mean, long))

      before_sum : (i : ℕ) → i < m → power_sum f before xs i ≡ sum f m (λ k. f.mul (a i k) (v k))
      unfolding before v
      before_sum i b =
          power_sum-sum before xs i (λ k. f.mul (a i k) (v k)) (length_before ∙ sym many)
          (λ k c. ap₂ f.mul (columns k (omega (arith, many)) i b) (sym (get_or-take m (map mean vector) k f.zero (omega (arith, many)))))
          ∙ ap (λ (n : ℕ). sum f n (λ k. f.mul (a i k) (v k))) many

      last_nonzero : v m ≡ f.zero → ⊥
      unfolding entries v before
      last_nonzero z = kernel.some (below_more (λ j. v j ≡ f.zero) m each z)
        where
          none : (i : ℕ) → i < length xs → power_sum f before xs i ≡ f.zero
          none i b =
              let c : i < m = omega (arith, many) in
              before_sum i c
              ∙ ring₂ l (λ T x. T ≐ T ⊕ x ⊗ O) tt (sum f m (λ k. f.mul (a i k) (v k))) (s i)
              ∙ ap (λ x. f.add (sum f m (λ k. f.mul (a i k) (v k))) (f.mul (s i) x)) (sym z) ∙ solved_at i c

          each : (j : ℕ) → j < m → v j ≡ f.zero
          each j b =
              sym (get_or-take m (map mean vector) j f.zero b)
              ∙ ap (λ p. get_or p j f.zero) (vandermonde l before xs (length_before ∙ sym many) apart none)
              ∙ get_or-replicate (length before) j f.zero f.zero (omega (arith, length_before))

      pub values_solved : Normalized f m (entries f mean vector) (entries f mean values)
          → (i : ℕ) → i < m → power_sum f (map mean (take m values)) xs i ≡ s i
      unfolding entries v
      values_solved normal i b =
          ap (λ ys. power_sum f ys xs i) (sym (take-map mean m values))
          ∙ power_sum-sum (take m (map mean values)) xs i (λ k. f.mul (f.mul (a i k) (v k)) q)
          (length-take-le m (map mean values) (omega (arith, length-map values mean, wide)) ∙ sym many)
          (λ k c.
          let d : k < m = omega (arith, many) in
          l.mul_assoc (a i k) (v k) q
          ∙ ap₂ f.mul (columns k d i b) (sym (normal k d) ∙ sym (get_or-take m (map mean values) k f.zero d)))
          ∙ ap (λ (n : ℕ). sum f n (λ k. f.mul (f.mul (a i k) (v k)) q)) many
          ∙ sum-times m (λ k. f.mul (a i k) (v k)) q
          ∙ ring₄ l (λ T x V W. T ⊗ ⊝ W ≐ ⊝ ((T ⊕ x ⊗ V) ⊗ W) ⊕ x ⊗ (V ⊗ W)) tt (sum f m (λ k. f.mul (a i k) (v k))) (s i) (v m) (f.inv (v m))
          ∙ ap₂ (λ T x. f.add (f.neg (f.mul T (f.inv (v m)))) (f.mul (s i) x)) (solved_at i b) (l.mul-inv (v m) last_nonzero)
          ∙ ring₂ l (λ x W. ⊝ (O ⊗ W) ⊕ x ⊗ I ≐ x) tt (s i) (f.inv (v m))
        where
          q : E
          q = f.neg (f.inv (v m))
