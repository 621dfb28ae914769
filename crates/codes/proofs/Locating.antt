-- From the syndromes of a word back to the codeword: a locator finds the errors, and what solves the sums at the suspects are the errors.
use Rattle.std.proofs.Common.{◌≡◌, ℕ, zero, suc, ◌+◌, ◌-◌, ◌*◌, ◌<◌, ◌≤◌, true, false, List, [], ◌∷◌, map, length, get_or, set, sym, refl, ap, ◌∙◌, subst, ap₂, inl, inr, ⊎_elim, arith, length-set, get_or-set_other, get_or-set_same}
use lib.ListN.{length-map}
use Rattle.std.proofs.lemmas.Bool.{cases_Bool}
use Rattle.gf.specs.Theory.{Operations, Laws, pow}
use Rattle.codes.specs.Polynomials.{value, zeros, over}
use Rattle.codes.specs.Codewords.{Fresh, Apart, Codeword, syndrome, distance, power_sum}
use Rattle.codes.specs.steps.Decoding.{Among, symbol, point, recurrence, Locator, Suspects, taken_off, weight}
use Rattle.codes.proofs.Elements as elements
use Rattle.codes.proofs.Lists.{cons, add_back}
use Rattle.codes.proofs.Ring.{O, ◌⊕◌, ◌⊗◌, ⊝◌, ◌≐◌, ring₁, ring₂, ring₃, ring₇}
use Rattle.codes.proofs.Values.{pow-add, value-over}
use Rattle.codes.proofs.PowerSums.{Zero, each, length-each, less, length-less, no_divisors, unequal, weight-each, power_sum-zero, few, solved}
use Rattle.codes.proofs.Words.{points, length-points, apart-points, codeword_syndromes, syndrome-sum, weight-less}
use Rattle.codes.proofs.Suspects.{points-apart, suspects_few}
use Rattle.codes.proofs.TakenOff.{inside_set}

module _ {E : Type 0} (f : Operations E) where
  -- every symbol that is not zero stands at one of the places
  abbrev Covered : List E → List ℕ → Type 0
  Covered e places = (k : ℕ) → k < length e → (symbol f e k ≡ f.zero → ⊥) → Among k places

  point_at : (n k : ℕ) → k < n → get_or (points f n) k f.zero ≡ point f n k
  point_at zero k h = absurd (omega arith)
  point_at (suc n) zero h = ap (pow f f.root) e
    where
      e : n ≡ suc n - 1 - 0
      e = omega arith
  point_at (suc n) (suc k) h = point_at n k (omega arith) ∙ ap (pow f f.root) e
    where
      e : n - 1 - k ≡ suc n - 1 - suc k
      e = omega arith

  pub recurrence-same : (p : List E) (s u : ℕ → E) (i m : ℕ) → length p + i ≤ m → ((j : ℕ) → j < m → s j ≡ u j) → recurrence f p s i ≡ recurrence f p u i
  recurrence-same [] s u i m h e = refl
  recurrence-same (c ∷ p) s u i m h e =
      ap₂ (λ x y. f.add (f.mul c x) y) (e (i + length p) (omega arith)) (recurrence-same p s u i m (omega arith) e)

  -- with the symbol at k cleared, the places after k hold all that is not zero, and nothing changes at them

  still_covered : (k : ℕ) (ks : List ℕ) (e : List E) → k < length e → Covered e (k ∷ ks) → Covered (set e k f.zero) ks
  still_covered k ks e b o j h x =
      by (o j (subst (λ (n : ℕ). j < n) (length-set e k f.zero) h) (λ z. x (get_or-set_other e k j f.zero f.zero (λ q. x (hit q)) ∙ z)))
    where
      hit : j ≡ k → symbol f (set e k f.zero) j ≡ f.zero
      hit q = ap (symbol f (set e k f.zero)) q ∙ get_or-set_same e k f.zero f.zero b

      by : Among j (k ∷ ks) → Among j ks
      by (inl q) = absurd (x (hit q))
      by (inr m) = m

  still_same : (k : ℕ) (e : List E) (js : List ℕ) → Fresh k js → map (symbol f (set e k f.zero)) js ≡ map (symbol f e) js
  still_same k e [] z = refl
  still_same k e (j ∷ js) z = cons (get_or-set_other e k j f.zero f.zero (λ h. z.0 (sym h))) (still_same k e js z.1)

module _ {E : Type 0} {f : Operations E} (l : Laws f) where
  -- sums of powers, weighed by a polynomial

  weighed-cons : (c : E) (p cs xs : List E) (i : ℕ)
      → power_sum f (each f (λ x. value f x (c ∷ p)) cs xs) xs i
      ≡ f.add (f.mul c (power_sum f cs xs (i + length p))) (power_sum f (each f (λ x. value f x p) cs xs) xs i)
  unfolding each
  weighed-cons c p [] xs i = ring₁ l (λ c. O ≐ c ⊗ O ⊕ O) tt c
  weighed-cons c p (d ∷ cs) [] i = ring₁ l (λ c. O ≐ c ⊗ O ⊕ O) tt c
  weighed-cons c p (d ∷ cs) (x ∷ xs) i =
      ap (f.add (f.mul (f.mul d (value f x (c ∷ p))) (pow f x i))) (weighed-cons c p cs xs i)
      ∙ ring₇ l (λ c d P V Q M N. d ⊗ (c ⊗ P ⊕ V) ⊗ Q ⊕ (c ⊗ M ⊕ N) ≐ c ⊗ (d ⊗ (Q ⊗ P) ⊕ M) ⊕ (d ⊗ V ⊗ Q ⊕ N)) tt
      c d (pow f x (length p)) (value f x p) (pow f x i) (power_sum f cs xs (i + length p)) (power_sum f (each f (λ x. value f x p) cs xs) xs i)
      ∙ ap (λ P. f.add (f.mul c (f.add (f.mul d P) (power_sum f cs xs (i + length p)))) (power_sum f (each f (λ x. value f x p) (d ∷ cs) (x ∷ xs)) (x ∷ xs) i))
      (sym (pow-add l x i (length p)))

  weighed-nil : (cs xs : List E) → Zero f (each f (λ x. f.zero) cs xs)
  unfolding each
  weighed-nil [] xs = tt
  weighed-nil (d ∷ cs) [] = tt
  weighed-nil (d ∷ cs) (x ∷ xs) = (elements.mul-zero l d, weighed-nil cs xs)

  weighed : (p cs xs : List E) (i : ℕ) → power_sum f (each f (λ x. value f x p) cs xs) xs i ≡ recurrence f p (power_sum f cs xs) i
  weighed [] cs xs i = power_sum-zero l (each f (λ x. f.zero) cs xs) xs i (weighed-nil cs xs)
  weighed (c ∷ p) cs xs i = weighed-cons c p cs xs i ∙ ap (f.add (f.mul c (power_sum f cs xs (i + length p)))) (weighed p cs xs i)

  -- a product that is zero where the symbol is not
  zero_at : (g : E → E) (cs xs : List E) (k : ℕ) → length cs ≡ length xs → k < length cs → Zero f (each f g cs xs)
      → (symbol f cs k ≡ f.zero → ⊥) → g (get_or xs k f.zero) ≡ f.zero
  unfolding each
  zero_at g [] xs k e h z n = absurd (n refl)
  zero_at g (c ∷ cs) [] k e h z n = absurd (omega arith)
  zero_at g (c ∷ cs) (x ∷ xs) zero e h z n = no_divisors l (g x) c (l.mul_comm (g x) c ∙ z.0) n
  zero_at g (c ∷ cs) (x ∷ xs) (suc k) e h z n = zero_at g cs xs k (omega arith) (omega arith) z.1 n

  -- where at most t symbols are not zero and t sums recur by p, the points of these symbols are roots of p
  error_root : (t : ℕ) (e p : List E) → length e ≤ f.reach → weight f e ≤ t
      → ((i : ℕ) → i < t → recurrence f p (power_sum f e (points f (length e))) i ≡ f.zero)
      → (k : ℕ) → k < length e → (symbol f e k ≡ f.zero → ⊥) → value f (point f (length e) k) p ≡ f.zero
  error_root t e p h w s k b n =
      ap (λ x. value f x p) (sym (point_at f (length e) k b))
      ∙ zero_at (λ x. value f x p) e xs k long b
      (few l xs (each f (λ x. value f x p) e xs) t (length-each f (λ x. value f x p) e xs long)
      (apart-points l (length e) h) (omega (arith, weight-each l (λ x. value f x p) e xs)) (λ i m. weighed p e xs i ∙ s i m))
      n
    where
      xs : List E
      xs = points f (length e)

      long : length e ≡ length xs
      long = sym (length-points f (length e))

  -- sums over all places, and over the places that are not zero

  sum-set : (cs xs : List E) (k i : ℕ) → length cs ≡ length xs → k < length cs
      → power_sum f cs xs i ≡ f.add (f.mul (symbol f cs k) (pow f (get_or xs k f.zero) i)) (power_sum f (set cs k f.zero) xs i)
  sum-set [] xs k i e h = absurd (omega arith)
  sum-set (c ∷ cs) [] k i e h = absurd (omega arith)
  sum-set (c ∷ cs) (x ∷ xs) zero i e h = ring₃ l (λ c P M. c ⊗ P ⊕ M ≐ c ⊗ P ⊕ (O ⊗ P ⊕ M)) tt c (pow f x i) (power_sum f cs xs i)
  sum-set (c ∷ cs) (x ∷ xs) (suc k) i e h =
      ap (f.add (f.mul c (pow f x i))) (sum-set cs xs k i (omega arith) (omega arith))
      ∙ ring₃ l (λ a b c. a ⊕ (b ⊕ c) ≐ b ⊕ (a ⊕ c)) tt
      (f.mul c (pow f x i)) (f.mul (symbol f cs k) (pow f (get_or xs k f.zero) i)) (power_sum f (set cs k f.zero) xs i)

  zero_everywhere : (e : List E) → Covered f e [] → Zero f e
  zero_everywhere [] h = tt
  zero_everywhere (c ∷ cs) h = (
    ⊎_elim (λ (t : f.equal c f.zero ≡ true). l.equal_no c f.zero t)
        (λ (t : f.equal c f.zero ≡ false). absurd (h 0 (omega arith) (unequal l c f.zero t))) (cases_Bool (f.equal c f.zero)),
    zero_everywhere cs (λ k b. h (suc k) (omega arith)),
  )

  sum-places : (places : List ℕ) (e xs : List E) (g : ℕ → E) (i : ℕ) → length e ≡ length xs → Apart places
      → ((k : ℕ) → Among k places → k < length e) → Covered f e places → ((k : ℕ) → k < length e → get_or xs k f.zero ≡ g k)
      → power_sum f e xs i ≡ power_sum f (map (symbol f e) places) (map g places) i
  sum-places [] e xs g i long a b o at = power_sum-zero l e xs i (zero_everywhere e o)
  sum-places (k ∷ ks) e xs g i long a b o at =
      sum-set e xs k i long (b k (inl refl))
      ∙ ap₂ (λ x m. f.add (f.mul (symbol f e k) (pow f x i)) m) (at k (b k (inl refl)))
      (sum-places ks (set e k f.zero) xs g i (length-set e k f.zero ∙ long) a.1
      (inside_set f e k f.zero ks b) (still_covered f k ks e (b k (inl refl)) o)
      (λ j h. at j (subst (λ (n : ℕ). j < n) (length-set e k f.zero) h))
      ∙ ap (λ ys. power_sum f ys (map g ks) i) (still_same f k e ks a.0))

  -- taking the errors off

  over_zero : (c e : List E) → length e ≡ length c → Zero f e → over f c e ≡ c
  over_zero [] [] h z = refl
  over_zero [] (b ∷ e) h z = absurd (omega arith)
  over_zero (a ∷ c) [] h z = refl
  over_zero (a ∷ c) (b ∷ e) h z = cons (ap (f.add a) z.0 ∙ l.add-zero a) (over_zero c e (omega arith) z.1)

  over-set : (c e : List E) (k : ℕ) → length e ≡ length c → k < length e
      → set (over f c e) k (f.add (symbol f (over f c e) k) (f.neg (symbol f e k))) ≡ over f c (set e k f.zero)
  over-set [] [] k h b = refl
  over-set [] (d ∷ e) k h b = absurd (omega arith)
  over-set (a ∷ c) [] k h b = absurd (omega arith)
  over-set (a ∷ c) (d ∷ e) zero h b = cons (ring₂ l (λ a b. a ⊕ b ⊕ ⊝ b ≐ a ⊕ O) tt a d) refl
  over-set (a ∷ c) (d ∷ e) (suc k) h b = cons refl (over-set c e k (omega arith) (omega arith))

  taken_all : (places : List ℕ) (c e : List E) → length e ≡ length c → Apart places
      → ((k : ℕ) → Among k places → k < length e) → Covered f e places → taken_off f (over f c e) places (map (symbol f e) places) ≡ c
  taken_all [] c e h a b o = over_zero c e h (zero_everywhere e o)
  taken_all (k ∷ ks) c e h a b o =
      ap (λ w. taken_off f w ks (map (symbol f e) ks)) (over-set c e k h (b k (inl refl)))
      ∙ ap (taken_off f (over f c (set e k f.zero)) ks) (sym (still_same f k e ks a.0))
      ∙ taken_all ks c (set e k f.zero) (length-set e k f.zero ∙ h) a.1
      (inside_set f e k f.zero ks b) (still_covered f k ks e (b k (inl refl)) o)

  -- the syndromes are those of the errors
  syndrome_errors : (r : ℕ) (c e : List E) → length e ≡ length c → Codeword f r c → (i : ℕ) → i < r
      → syndrome f (over f c e) i ≡ power_sum f e (points f (length e)) i
  syndrome_errors r c e h w i k =
      value-over l (pow f f.root i) c e (sym h) ∙ ap₂ f.add (codeword_syndromes l r c w i k) (syndrome-sum l e i) ∙ elements.zero-add l _

  -- with at most t errors e on the codeword c, any locator leads back to c
  found : (r t : ℕ) (c e p : List E) (places : List ℕ) (ys : List E) → length e ≡ length c → length c ≤ f.reach → t * 2 ≤ r
      → Codeword f r c → weight f e ≤ t → Locator f t (syndrome f (over f c e)) p → Suspects f p (length c) (length c) places
      → length ys ≡ length places
      → ((i : ℕ) → i < length places → power_sum f ys (map (point f (length c)) places) i ≡ syndrome f (over f c e) i)
      → taken_off f (over f c e) places ys ≡ c
  found r t c e p places ys h n d w v o s m y =
      ap (taken_off f (over f c e) places)
      (solved l xs ys (map (symbol f e) places) (m ∙ sym long) (length-map places (symbol f e) ∙ sym long) (points-apart l (length c) (length c) p places n s) sums)
      ∙ taken_all places c e h s.apart inside all
    where
      xs : List E
      xs = map (point f (length c)) places

      long : length xs ≡ length places
      long = length-map places (point f (length c))

      inside : (k : ℕ) → Among k places → k < length e
      inside k a = omega (arith, s.below k a, h)

      all : Covered f e places
      all k b x =
          s.all k (omega arith) (omega arith)
          (subst (λ (j : ℕ). value f (point f j k) p ≡ f.zero) h (error_root t e p (omega arith) v recurs k b x))
        where
          recurs : (i : ℕ) → i < t → recurrence f p (power_sum f e (points f (length e))) i ≡ f.zero
          recurs i q =
              sym (recurrence-same f p (syndrome f (over f c e)) (power_sum f e (points f (length e))) i r (omega (arith, o.long)) (syndrome_errors r c e h w))
              ∙ o.recurs i q

      few_places : length places ≤ t
      few_places = suspects_few l t (length c) (length c) p places n (omega (arith, o.long)) (λ z. o.some (z ∙ ap (zeros f) o.long)) s

      sums : (i : ℕ) → i < length xs → power_sum f ys xs i ≡ power_sum f (map (symbol f e) places) xs i
      sums i b =
          y i (omega (arith, long)) ∙ syndrome_errors r c e h w i (omega (arith, long, few_places))
          ∙ sum-places places e (points f (length e)) (point f (length c)) i (sym (length-points f (length e))) s.apart inside all
          (λ k a. point_at f (length e) k a ∙ ap (λ (j : ℕ). point f j k) h)

  pub solution_found : (r t : ℕ) (w c p : List E) (places : List ℕ) (ys : List E) → length c ≡ length w → length w ≤ f.reach → t * 2 ≤ r
      → Codeword f r c → distance f w c ≤ t → Locator f t (syndrome f w) p → Suspects f p (length w) (length w) places
      → length ys ≡ length places
      → ((i : ℕ) → i < length places → power_sum f ys (map (point f (length w)) places) i ≡ syndrome f w i)
      → taken_off f w places ys ≡ c
  solution_found r t w c p places ys h n d k v o s m y =
      ap (λ u. taken_off f u places ys) (sym whole)
      ∙ found r t c (less f w c) p places ys (length-less f w c (sym h) ∙ sym h) (omega arith) d k (omega (arith, weight-less l w c (sym h)))
      (subst (λ u. Locator f t (syndrome f u) p) (sym whole) o) (subst (λ (j : ℕ). Suspects f p j j places) (sym h) s) m
      (λ i b. ap (λ (j : ℕ). power_sum f ys (map (point f j) places) i) h ∙ y i b ∙ ap (λ u. syndrome f u i) (sym whole))
    where
      whole : over f c (less f w c) ≡ w
      whole = add_back l c w (omega arith)
