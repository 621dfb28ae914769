-- One column of the elimination, and one row of the substitution.
use Rattle.std.proofs.Common.{◌≡◌, ℕ, ◌+◌, ◌<◌, ◌≤◌, sym, refl, ap, ◌∙◌, subst, ap₂, ⊎_elim, arith}
use Rattle.std.proofs.lemmas.Bool.{cases_eq, cases_lt}
use Rattle.gf.specs.Theory.{Operations, Laws}
use Rattle.codes.specs.steps.Elimination.{sent, Kills, Keeps, Steps, Free, Pivot, Swapped, Below, Single, Solved}
use Rattle.codes.proofs.Elements.{mul-zero, zero-mul}
use Rattle.codes.proofs.Linear.{sent-same, sent_added, sent_change, sent-none}

module _ {E : Type 0} {f : Operations E} (l : Laws f) (m w : ℕ) where
  -- rows that have changed places
  swapped_kills : (p q : ℕ) (a b : ℕ → ℕ → E) (v : ℕ → E) → p < m → q < m → Swapped w w a p q b → Kills f m w b v → Kills f m w a v
  swapped_kills p q a b v hp hq s kill i h =
      ⊎_elim (λ (e : i ≡ p). subst (λ i. sent f w a i v ≡ f.zero) (sym e) (sent-same l w b a v p q (λ c x. sym (s.second c x)) ∙ kill q hq))
      (λ (d : i ≡ p → ⊥). ⊎_elim
      (λ (e : i ≡ q). subst (λ i. sent f w a i v ≡ f.zero) (sym e) (sent-same l w b a v q p (λ c x. sym (s.first c x)) ∙ kill p hp))
      (λ (n : i ≡ q → ⊥). sent-same l w b a v i i (λ c x. sym (s.rows i c x d n)) ∙ kill i h) (cases_eq i q)) (cases_eq i p)

  -- multiples of row k were added to the rows past it
  below_kills : (k : ℕ) (a b : ℕ → ℕ → E) (v : ℕ → E) → k < m → Below f w m k a b → ((c : ℕ) → c < k → a k c ≡ f.zero)
      → Kills f m w b v → Kills f m w a v
  below_kills k a b v hk s z kill i h =
      ⊎_elim (λ (x : k < i). past x) (λ (x : i ≤ k). sent-same l w b a v i i (λ c y. sym (s.upper i c y x)) ∙ kill i h) (cases_lt k i)
    where
      upper : sent f w a k v ≡ f.zero
      upper = sent-same l w b a v k k (λ c x. sym (s.upper k c x (omega arith))) ∙ kill k hk

      past : k < i → sent f w a i v ≡ f.zero
      past after =
          let d = s.cleared i after h in
          let q = d.factor in
          let row : (c : ℕ) → c < w → b i c ≡ f.add (a i c) (f.mul q (a k c)) =
          λ c x. ⊎_elim
          (λ (y : c < k). d.added.before c x y ∙ sym (ap (f.add (a i c)) (ap (f.mul q) (z c y) ∙ mul-zero l q) ∙ l.add-zero (a i c)))
          (λ (y : k ≤ c). d.added.within c y x) (cases_lt c k) in
          sym (sent_added l w a b v i k q row ∙ ap (λ x. f.add (sent f w a i v) (f.mul q x)) upper
          ∙ ap (f.add (sent f w a i v)) (mul-zero l q) ∙ l.add-zero (sent f w a i v)) ∙ kill i h

  module _ (k p : ℕ) (a b d : ℕ → ℕ → E) (hm : k < m) (hw : m < w) (pivot : Pivot f m k a p) (s : Swapped w w a k p b) (e : Below f w m k b d) (steps : Steps f m k a) where
    -- what stood before column k stays
    early : (i c : ℕ) → c < k → c < i → i < m → b i c ≡ f.zero
    early i c h x n =
        ⊎_elim (λ (z : i ≡ k). ap (λ i. b i c) z ∙ s.first c (omega arith) ∙ steps.zeros p c h (omega (arith, pivot.from)) pivot.below)
        (λ (z : i ≡ k → ⊥). ⊎_elim
        (λ (y : i ≡ p). ap (λ i. b i c) y ∙ s.second c (omega arith) ∙ steps.zeros k c h h hm)
        (λ (y : i ≡ p → ⊥). s.rows i c (omega arith) z y ∙ steps.zeros i c h x n) (cases_eq i p)) (cases_eq i k)

    pub keeps_more : (o : ℕ → ℕ → E) → Keeps f m w o a → Keeps f m w o d
    keeps_more o keep v kill =
        keep v (swapped_kills k p a b v hm pivot.below s (below_kills k b d v hm e (λ c h. early k c h h hm) kill))

    pub steps_more : Steps f m (k + 1) d
    steps_more = record {
      pivots = λ i h z. ⊎_elim
          (λ (y : i ≡ k). pivot.some (sym (s.first k (omega arith)) ∙ sym (e.upper k k (omega arith) (omega arith)) ∙ ap (λ i. d i i) (sym y) ∙ z))
          (λ (y : i ≡ k → ⊥).
          let x : i < k = omega (arith, y) in
          steps.pivots i x (sym (s.rows i i (omega arith) y (λ x. omega (arith, pivot.from))) ∙ sym (e.upper i i (omega arith) (omega arith)) ∙ z))
          (cases_eq i k);
      zeros = λ i c h x n. ⊎_elim
          (λ (y : c ≡ k). ap (d i) y ∙ (e.cleared i (omega arith) n).zero)
          (λ (y : c ≡ k → ⊥).
          let t : c < k = omega (arith, y) in
          ⊎_elim (λ (z : k < i). (e.cleared i z n).added.before c (omega arith) t ∙ early i c t x n)
          (λ (z : i ≤ k). e.upper i c (omega arith) z ∙ early i c t x n) (cases_lt k i))
          (cases_eq c k);
    }

  module _ (free : ℕ) (a : ℕ → ℕ → E) (hm : free ≤ m) (hw : m < w) (steps : Steps f m free a) (none : Free f m free a) where
    pub solved_none : (v : ℕ → E) → Single f free v → Solved f m w free free a v
    solved_none v s = record {
      here = s.here;
      before = λ j h. s.elsewhere j (λ e. omega arith);
      after = λ j h. s.elsewhere j (λ e. omega arith);
      kills = λ r h x.
          sent_change l w a r free (λ j. f.zero) v (omega arith) refl (λ j y d. s.elsewhere j d)
          ∙ ap₂ f.add (sent-none l w a r (λ j. f.zero) (λ j y. refl)) (ap (λ y. f.mul y (v free)) (none r h x) ∙ zero-mul l (v free))
          ∙ l.add-zero f.zero;
    }

    -- row i, the last that is left, by the entry x that clears it
    pub solved_more : (n i : ℕ) (v u : ℕ → E) (x : E) → n ≡ i + 1 → n ≤ free → Solved f m w free n a v
        → f.add (sent f w a i v) (f.mul x (a i i)) ≡ f.zero → u i ≡ x → ((j : ℕ) → (j ≡ i → ⊥) → u j ≡ v j)
        → Solved f m w free i a u
    solved_more n i v u x en hn s z here other = record {
      here = other free (λ e. omega arith) ∙ s.here;
      before = λ j h. other j (λ e. omega arith) ∙ s.before j (omega arith);
      after = λ j h. other j (λ e. omega arith) ∙ s.after j h;
      kills = λ r h b. ⊎_elim
          (λ (e : r ≡ i). subst (λ r. sent f w a r u ≡ f.zero) (sym e)
          (changed i ∙ ap (f.add (sent f w a i v)) (ap (f.mul (a i i)) here ∙ l.mul_comm (a i i) x) ∙ z))
          (λ (d : r ≡ i → ⊥). changed r ∙ ap₂ f.add (s.kills r (omega (arith, d)) b)
          (ap (λ y. f.mul y (u i)) (steps.zeros r i (omega arith) (omega (arith, d)) b) ∙ zero-mul l (u i)) ∙ l.add-zero f.zero) (cases_eq r i);
    }
      where
        changed : (r : ℕ) → sent f w a r u ≡ f.add (sent f w a r v) (f.mul (a r i) (u i))
        changed r = sent_change l w a r i v u (omega arith) (s.before i (omega arith)) (λ j x d. other j d)
