-- The generator in place: a factor taken in place by place from the front.
use borrow.Author.Count.{below_more}
use Rattle.std.proofs.Common.{◌≡◌, ℕ, zero, suc, ◌+◌, ◌<◌, ◌≤◌, true, List, [], ◌∷◌, ◌++◌, map, length, take, drop, get_or, sym, refl, ap, ◌∙◌, ap₂, ⊎_elim, add-one, arith, length-take-le, ext_get_or}
use lib.ListN.{length-map}
use Rattle.std.proofs.lemmas.List.{get_or_past, take-append-drop}
use Rattle.std.proofs.lemmas.Bool.{cases_lt}
use Rattle.gf.specs.Theory.{Operations, Laws, pow}
use Rattle.codes.specs.Polynomials.{over, times}
use Rattle.codes.specs.Division.{admitted}
use Rattle.codes.specs.Codewords.{generator}
use Rattle.codes.specs.steps.Elimination.{entries}
use Rattle.codes.specs.steps.Filling.{Holds, FactorTaken}
use Rattle.codes.proofs.Admission.{admitted_by_lead}
use Rattle.codes.proofs.Cells.{front, behind, place_past}
use Rattle.codes.proofs.Lists.{length-times}
use Rattle.codes.proofs.Ring.{O, I, ◌⊕◌, ◌⊗◌, ⊝◌, ◌≐◌, ring₁, ring₂, ring₃}
use Rattle.codes.proofs.Words.{linear, generator-cons}

module _ {E : Type 0} (f : Operations E) where
  over_first : (x : E) (t : List E) → 0 < length t → get_or (over f (x ∷ []) t) 0 f.zero ≡ f.add x (get_or t 0 f.zero)
  over_first x [] h = absurd (omega arith)
  over_first x (y ∷ t) h = refl

  over_later : (x : E) (t : List E) (k : ℕ) → 0 < length t → get_or (over f (x ∷ []) t) (suc k) f.zero ≡ get_or t (suc k) f.zero
  over_later x [] k h = absurd (omega arith)
  over_later x (y ∷ t) k h = refl

  -- one at the front, and zeros behind it
  pub generator-start : (u : ℕ → E) → u 0 ≡ f.one → ((j : ℕ) → (j ≡ 0 → ⊥) → u j ≡ f.zero) → Holds f (generator f 0) u
  generator-start u here elsewhere zero = here
  generator-start u here elsewhere (suc j) = elsewhere (suc j) (λ e. omega arith)

module _ {E : Type 0} {f : Operations E} (l : Laws f) where
  -- the coefficients of a product with x - b, from the front

  some : (b : E) (p : List E) → 0 < length (times f p (linear f b))
  some b p = omega (arith, length-times f p f.one (f.neg b ∷ []))

  factor_first : (b : E) (p : List E) → get_or (times f p (linear f b)) 0 f.zero ≡ get_or p 0 f.zero
  factor_first b [] = refl
  factor_first b (a ∷ p) = ring₁ l (λ a. a ⊗ I ⊕ O ≐ a) tt a

  factor_later : (b : E) (p : List E) (k : ℕ)
      → get_or (times f p (linear f b)) (suc k) f.zero ≡ f.add (get_or p (suc k) f.zero) (f.neg (f.mul (get_or p k f.zero) b))
  factor_later b [] k = ring₁ l (λ b. O ≐ O ⊕ ⊝ (O ⊗ b)) tt b
  factor_later b (a ∷ p) zero =
      over_first f (f.mul a (f.neg b)) (times f p (linear f b)) (some b p) ∙ ap (f.add (f.mul a (f.neg b))) (factor_first b p)
      ∙ ring₃ l (λ a b c. a ⊗ ⊝ b ⊕ c ≐ c ⊕ ⊝ (a ⊗ b)) tt a b (get_or p 0 f.zero)
  factor_later b (a ∷ p) (suc k) = over_later f (f.mul a (f.neg b)) (times f p (linear f b)) k (some b p) ∙ factor_later b p k

  length-generator : (r : ℕ) → length (generator f r) ≡ r + 1
  length-generator r = ap length (generator-cons l r).1 ∙ omega (arith, (generator-cons l r).2)

  generator_past : (r j : ℕ) → r < j → get_or (generator f r) j f.zero ≡ f.zero
  generator_past r j h = get_or_past (generator f r) j f.zero (omega (arith, length-generator r))

  -- each coefficient of the next generator, from this one and the one before
  generator_at : (r j : ℕ) → get_or (generator f (r + 1)) j f.zero
      ≡ f.add (get_or (generator f r) j f.zero) (f.neg (f.mul (get_or (f.zero ∷ generator f r) j f.zero) (pow f f.root r)))
  generator_at r j = ap (λ (n : ℕ). get_or (generator f n) j f.zero) (add-one r) ∙ by j
    where
      b : E
      b = pow f f.root r

      by : (j : ℕ) → get_or (generator f (suc r)) j f.zero
          ≡ f.add (get_or (generator f r) j f.zero) (f.neg (f.mul (get_or (f.zero ∷ generator f r) j f.zero) b))
      by zero = factor_first b (generator f r) ∙ ring₂ l (λ a b. a ≐ a ⊕ ⊝ (O ⊗ b)) tt (get_or (generator f r) 0 f.zero) b
      by (suc k) = factor_later b (generator f r) k

  -- the loop that takes a factor in

  pub factor_more : (r k : ℕ) (u v : ℕ → E) (x y : E) → FactorTaken f k (generator f r) (generator f (r + 1)) x u
      → v k ≡ f.add (u k) (f.neg (f.mul x (pow f f.root r))) → ((j : ℕ) → (j ≡ k → ⊥) → v j ≡ u j) → y ≡ u k
      → FactorTaken f (k + 1) (generator f r) (generator f (r + 1)) y v
  factor_more r k u v x y s here other e = record {
    low = below_more (λ j. v j ≡ get_or (generator f (r + 1)) j f.zero) k
        (λ j h. other j (λ q. omega arith) ∙ s.low j h)
        (here ∙ ap₂ (λ a c. f.add a (f.neg (f.mul c (pow f f.root r)))) (s.high k (omega arith)) s.before ∙ sym (generator_at r k));
    high = λ j h. other j (λ q. omega arith) ∙ s.high j (omega arith);
    before = e ∙ s.high k (omega arith) ∙ ap (λ (m : ℕ). get_or (f.zero ∷ generator f r) m f.zero) (sym (add-one k));
  }

  -- it goes over the places of the next generator alone
  pub factor_begun : {S : Type 0} (mean : S → E) (xs : List S) (r : ℕ) (x : E) → r + 1 < length xs → x ≡ f.zero
      → Holds f (generator f r) (entries f mean xs)
      → FactorTaken f 0 (generator f r) (generator f (r + 1)) x (entries f mean (take (r + 2) xs))
  factor_begun mean xs r x long start holds = record {
    low = λ j h. absurd (omega (arith, h));
    high = λ j _. ⊎_elim
        (λ (h : j < r + 2). sym (front f mean (take (r + 2) xs) (drop (r + 2) xs) j (omega (arith, fits)))
        ∙ ap (λ ys. entries f mean ys j) (take-append-drop (r + 2) xs) ∙ holds j)
        (λ (h : r + 2 ≤ j). place_past f mean (take (r + 2) xs) j (omega (arith, fits)) ∙ sym (generator_past r j (omega arith)))
        (cases_lt j (r + 2));
    before = start;
  }
    where
      fits : length (take (r + 2) xs) ≡ r + 2
      fits = length-take-le (r + 2) xs (omega (arith, long))

  pub factor_end : (r n : ℕ) (u : ℕ → E) (x : E) → r + 1 < n → FactorTaken f n (generator f r) (generator f (r + 1)) x u → Holds f (generator f (r + 1)) u
  factor_end r n u x h s j =
      ⊎_elim (λ (k : j < n). s.low j k)
      (λ (k : n ≤ j). s.high j k ∙ generator_past r j (omega arith) ∙ sym (generator_past (r + 1) j (omega arith))) (cases_lt j n)

  -- where the front part holds it, so does the whole
  pub factor_whole : {S : Type 0} (mean : S → E) (ys xs : List S) (r : ℕ) → length ys ≡ r + 2 → Holds f (generator f r) (entries f mean xs)
      → Holds f (generator f (r + 1)) (entries f mean ys) → Holds f (generator f (r + 1)) (entries f mean (ys ++ drop (r + 2) xs))
  factor_whole mean ys xs r long before part j =
      ⊎_elim (λ (h : j < r + 2). front f mean ys (drop (r + 2) xs) j (omega (arith, long)) ∙ part j)
      (λ (h : r + 2 ≤ j). behind f mean ys xs (r + 2) j long h ∙ before j ∙ generator_past r j (omega arith)
      ∙ sym (generator_past (r + 1) j (omega arith))) (cases_lt j (r + 2))

  -- places that hold the generator, as many as it has coefficients
  pub generated : {S : Type 0} (mean : S → E) (xs : List S) (r : ℕ) → length xs ≡ r + 1 → Holds f (generator f r) (entries f mean xs)
      → map mean xs ≡ generator f r
  unfolding entries
  generated mean xs r e h = ext_get_or f.zero (map mean xs) (generator f r) (length-map xs mean ∙ e ∙ sym (length-generator r)) (λ j k. h j)

  -- the generator is admitted as a divisor
  pub generator-admitted : (r places : ℕ) (w : List E) → 1 ≤ r → r ≤ 16 → places ≡ r → w ≡ generator f r → admitted f w places ≡ true
  generator-admitted r places w low high e made =
      sym (admitted_by_lead f places w (omega arith) (omega arith) (ap length made ∙ length-generator r ∙ omega arith))
      ∙ l.equal_yes (get_or w 0 f.zero) f.one (ap (λ p. get_or p 0 f.zero) (made ∙ (generator-cons l r).1))
