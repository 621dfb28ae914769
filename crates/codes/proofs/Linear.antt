-- Sums over a field, and what the rows of a matrix send a vector to.
use Rattle.std.proofs.Common.{◌≡◌, ℕ, zero, suc, ◌+◌, ◌-◌, ◌<◌, ◌≤◌, sym, refl, ap, ◌∙◌, ap₂, ⊎_elim, not-suc-le-zero, add-zero, add-suc, add-one, arith}
use Rattle.std.proofs.lemmas.Bool.{cases_eq}
use Rattle.gf.specs.Theory.{Operations, Laws}
use Rattle.codes.specs.steps.Elimination.{sum, sent}
use Rattle.codes.proofs.Elements.{mul-zero, zero-mul, add_swap, add-mul}

module _ {E : Type 0} {f : Operations E} (l : Laws f) where
  -- (a + b) + c = (a + c) + b
  swap_last : (a b c : E) → f.add (f.add a b) c ≡ f.add (f.add a c) b
  swap_last a b c = l.add_assoc a b c ∙ ap (f.add a) (l.add_comm b c) ∙ sym (l.add_assoc a c b)

  -- a and the opposite of their quotient times b make zero
  pub cleared : (a b : E) → (b ≡ f.zero → ⊥) → f.add a (f.mul (f.neg (f.mul a (f.inv b))) b) ≡ f.zero
  cleared a b d =
      ap (λ x. f.add x (f.mul (f.neg (f.mul a (f.inv b))) b))
      (sym (l.mul_assoc a (f.inv b) b ∙ ap (f.mul a) (l.mul_comm (f.inv b) b ∙ l.mul-inv b d) ∙ l.mul-one a))
      ∙ sym (add-mul l (f.mul a (f.inv b)) (f.neg (f.mul a (f.inv b))) b)
      ∙ ap (λ x. f.mul x b) (l.add-neg (f.mul a (f.inv b))) ∙ zero-mul l b

  sum_same : (n : ℕ) (u v : ℕ → E) → ((j : ℕ) → j < n → u j ≡ v j) → sum f n u ≡ sum f n v
  unfolding sum
  sum_same zero u v h = refl
  sum_same (suc n) u v h = ap₂ f.add (sum_same n u v (λ j k. h j (omega arith))) (h n (omega arith))

  sum-none : (n : ℕ) (u : ℕ → E) → ((j : ℕ) → j < n → u j ≡ f.zero) → sum f n u ≡ f.zero
  unfolding sum
  sum-none zero u h = refl
  sum-none (suc n) u h = ap₂ f.add (sum-none n u (λ j k. h j (omega arith))) (h n (omega arith)) ∙ l.add-zero f.zero

  sum_added : (n : ℕ) (q : E) (u v s : ℕ → E) → ((j : ℕ) → j < n → s j ≡ f.add (u j) (f.mul q (v j)))
      → sum f n s ≡ f.add (sum f n u) (f.mul q (sum f n v))
  unfolding sum
  sum_added zero q u v s e = sym (ap (f.add f.zero) (mul-zero l q) ∙ l.add-zero f.zero)
  sum_added (suc n) q u v s e =
      ap₂ f.add (sum_added n q u v s (λ j k. e j (omega arith))) (e n (omega arith))
      ∙ add_swap l (sum f n u) (f.mul q (sum f n v)) (u n) (f.mul q (v n))
      ∙ ap (f.add (f.add (sum f n u) (u n))) (sym (l.mul-add q (sum f n v) (v n)))

  -- one term, that was zero, is another
  sum_change : (n i : ℕ) (u v : ℕ → E) → i < n → u i ≡ f.zero → ((j : ℕ) → j < n → (j ≡ i → ⊥) → v j ≡ u j)
      → sum f n v ≡ f.add (sum f n u) (v i)
  unfolding sum
  sum_change zero i u v b z h = absurd (not-suc-le-zero b)
  sum_change (suc n) i u v b z h =
      ⊎_elim
      (λ (e : n ≡ i).
      ap₂ f.add (sum_same n v u (λ j k. h j (omega arith) (λ d. omega arith))) (ap v e)
      ∙ ap (λ x. f.add x (v i)) (sym (ap (f.add (sum f n u)) (ap u e ∙ z) ∙ l.add-zero (sum f n u))))
      (λ (d : n ≡ i → ⊥).
      ap₂ f.add (sum_change n i u v (omega (arith, d)) z (λ j k. h j (omega arith))) (h n (omega arith) d)
      ∙ swap_last (sum f n u) (v i) (u n))
      (cases_eq n i)

  module _ (w : ℕ) (a b : ℕ → ℕ → E) (v : ℕ → E) where
    pub sent-same : (i k : ℕ) → ((c : ℕ) → c < w → b i c ≡ a k c) → sent f w b i v ≡ sent f w a k v
    unfolding sent
    sent-same i k h = sum_same w _ _ (λ c x. ap (λ y. f.mul y (v c)) (h c x))

    pub sent_added : (i k : ℕ) (q : E) → ((c : ℕ) → c < w → b i c ≡ f.add (a i c) (f.mul q (a k c)))
        → sent f w b i v ≡ f.add (sent f w a i v) (f.mul q (sent f w a k v))
    unfolding sent
    sent_added i k q h =
        sum_added w q _ _ _ (λ c x. ap (λ y. f.mul y (v c)) (h c x) ∙ add-mul l (a i c) (f.mul q (a k c)) (v c)
        ∙ ap (f.add (f.mul (a i c) (v c))) (l.mul_assoc q (a k c) (v c)))

  sum_past : (d n : ℕ) (u : ℕ → E) → ((j : ℕ) → n ≤ j → u j ≡ f.zero) → sum f (n + d) u ≡ sum f n u
  unfolding sum
  sum_past zero n u h = ap (λ (k : ℕ). sum f k u) (add-zero n)
  sum_past (suc d) n u h =
      ap (λ (k : ℕ). sum f k u) (add-suc n d) ∙ ap₂ f.add (sum_past d n u h) (h (n + d) (omega arith)) ∙ l.add-zero (sum f n u)

  -- the columns from n on, where v is zero, make no difference
  pub sent_past : (w n : ℕ) (a : ℕ → ℕ → E) (r : ℕ) (v : ℕ → E) → n ≤ w → ((j : ℕ) → n ≤ j → v j ≡ f.zero) → sent f w a r v ≡ sent f n a r v
  unfolding sent
  sent_past w n a r v b h =
      let e : w ≡ n + (w - n) = omega arith in
      ap (λ (k : ℕ). sum f k (λ j. f.mul (a r j) (v j))) e
      ∙ sum_past (w - n) n (λ j. f.mul (a r j) (v j)) (λ j k. ap (f.mul (a r j)) (h j k) ∙ mul-zero l (a r j))

  -- one column more
  pub sent_more : (w : ℕ) (a : ℕ → ℕ → E) (r : ℕ) (v : ℕ → E) → sent f (w + 1) a r v ≡ f.add (sent f w a r v) (f.mul (a r w) (v w))
  unfolding sent sum
  sent_more w a r v = ap (λ (n : ℕ). sum f n (λ j. f.mul (a r j) (v j))) (add-one w)

  -- one entry of v, that was zero, is another
  pub sent_change : (w : ℕ) (a : ℕ → ℕ → E) (r i : ℕ) (v u : ℕ → E) → i < w → v i ≡ f.zero → ((j : ℕ) → j < w → (j ≡ i → ⊥) → u j ≡ v j)
      → sent f w a r u ≡ f.add (sent f w a r v) (f.mul (a r i) (u i))
  unfolding sent
  sent_change w a r i v u b z h =
      sum_change w i (λ j. f.mul (a r j) (v j)) (λ j. f.mul (a r j) (u j)) b (ap (f.mul (a r i)) z ∙ mul-zero l (a r i)) (λ j k d. ap (f.mul (a r j)) (h j k d))

  -- another vector with the same entries
  pub sent_vector : (w : ℕ) (a : ℕ → ℕ → E) (r : ℕ) (v u : ℕ → E) → ((j : ℕ) → j < w → u j ≡ v j) → sent f w a r u ≡ sent f w a r v
  unfolding sent
  sent_vector w a r v u h = sum_same w _ _ (λ j k. ap (f.mul (a r j)) (h j k))

  pub sent-none : (w : ℕ) (a : ℕ → ℕ → E) (r : ℕ) (v : ℕ → E) → ((j : ℕ) → j < w → v j ≡ f.zero) → sent f w a r v ≡ f.zero
  unfolding sent
  sent-none w a r v h = sum-none w _ (λ j k. ap (f.mul (a r j)) (h j k) ∙ mul-zero l (a r j))
