-- Rows of k bits form a ring, for each k and each value of the k-th power of x.
use Rattle.std.specs.Prelude.{◌≡◌, ℕ, zero, suc, Bool, true, false, not, ◌&&◌, T}
use Rattle.std.proofs.Math.Path.{refl, sym, ap, ap₂}
use Rattle.std.proofs.Common.{◌∙◌}
use Rattle.gf.specs.Bits.{Bits, differ, zeros, plus, equal, only, shift, out, times_x, times_row, times}

differ_assoc : (a b c : Bool) → differ (differ a b) c ≡ differ a (differ b c)
differ_assoc true true true = refl
differ_assoc true true false = refl
differ_assoc true false c = refl
differ_assoc false b c = refl

differ_comm : (a b : Bool) → differ a b ≡ differ b a
differ_comm true true = refl
differ_comm true false = refl
differ_comm false true = refl
differ_comm false false = refl

differ_self : (a : Bool) → differ a a ≡ false
differ_self true = refl
differ_self false = refl

differ-false : (a : Bool) → differ a false ≡ a
differ-false true = refl
differ-false false = refl

pub pair : {A B : Type 0} {a b : A} {c d : B} → a ≡ b → c ≡ d → ◌≡◌ {A = A × B} (a, c) (b, d)
pair p q = ap₂ (λ x y. (x, y)) p q

pub plus_assoc : (k : ℕ) (u v w : Bits k) → plus k (plus k u v) w ≡ plus k u (plus k v w)
unfolding plus
plus_assoc zero u v w = refl
plus_assoc (suc k) u v w = pair (differ_assoc u.0 v.0 w.0) (plus_assoc k u.1 v.1 w.1)

pub plus_comm : (k : ℕ) (u v : Bits k) → plus k u v ≡ plus k v u
unfolding plus
plus_comm zero u v = refl
plus_comm (suc k) u v = pair (differ_comm u.0 v.0) (plus_comm k u.1 v.1)

pub plus-zeros : (k : ℕ) (u : Bits k) → plus k u (zeros k) ≡ u
unfolding plus zeros
plus-zeros zero u = refl
plus-zeros (suc k) u = pair (differ-false u.0) (plus-zeros k u.1)

pub plus_self : (k : ℕ) (u : Bits k) → plus k u u ≡ zeros k
unfolding plus zeros
plus_self zero u = refl
plus_self (suc k) u = pair (differ_self u.0) (plus_self k u.1)

pub equal_yes : (k : ℕ) (u : Bits k) → equal k u u ≡ true
unfolding equal
equal_yes zero u = refl
equal_yes (suc k) u = ap₂ (λ a b. not a && b) (differ_self u.0) (equal_yes k u.1)

same_bit : (a b c : Bool) → T (not (differ a b) && c) → (a ≡ b) × T c
same_bit true true c t = (refl, t)
same_bit true false c t = absurd t
same_bit false true c t = absurd t
same_bit false false c t = (refl, t)

pub equal_no : (k : ℕ) (u v : Bits k) → T (equal k u v) → u ≡ v
unfolding equal
equal_no zero u v t = refl
equal_no (suc k) u v t =
    let s = same_bit u.0 v.0 (equal k u.1 v.1) t in
    pair s.0 (equal_no k u.1 v.1 s.1)

zeros-plus : (k : ℕ) (u : Bits k) → plus k (zeros k) u ≡ u
zeros-plus k u = plus_comm k (zeros k) u ∙ plus-zeros k u

-- (a + b) + (c + d) = (a + c) + (b + d)
swap : (k : ℕ) (a b c d : Bits k) → plus k (plus k a b) (plus k c d) ≡ plus k (plus k a c) (plus k b d)
swap k a b c d =
    plus_assoc k a b (plus k c d)
    ∙ ap (plus k a) (sym (plus_assoc k b c d) ∙ ap (λ e. plus k e d) (plus_comm k b c) ∙ plus_assoc k c b d)
    ∙ sym (plus_assoc k a c (plus k b d))

shift-plus : (k : ℕ) (b c : Bool) (u v : Bits k) → shift k (differ b c) (plus k u v) ≡ plus k (shift k b u) (shift k c v)
unfolding plus shift
shift-plus zero b c u v = refl
shift-plus (suc k) b c u v = pair refl (shift-plus k u.0 v.0 u.1 v.1)

out-plus : (k : ℕ) (b c : Bool) (u v : Bits k) → out k (differ b c) (plus k u v) ≡ differ (out k b u) (out k c v)
unfolding plus out
out-plus zero b c u v = refl
out-plus (suc k) b c u v = out-plus k u.0 v.0 u.1 v.1

only-bit : (k : ℕ) (b c : Bool) (u : Bits k) → only k (differ b c) u ≡ plus k (only k b u) (only k c u)
unfolding only
only-bit k true true u = sym (plus_self k u)
only-bit k true false u = sym (plus-zeros k u)
only-bit k false true u = sym (zeros-plus k u)
only-bit k false false u = sym (plus-zeros k (zeros k))

only-plus : (k : ℕ) (b : Bool) (u v : Bits k) → only k b (plus k u v) ≡ plus k (only k b u) (only k b v)
unfolding only
only-plus k true u v = refl
only-plus k false u v = sym (plus-zeros k (zeros k))

module _ (k : ℕ) (low : Bits k) where
  pub times_x-plus : (u v : Bits k) → times_x k low (plus k u v) ≡ plus k (times_x k low u) (times_x k low v)
  unfolding times_x
  times_x-plus u v =
      ap₂ (plus k) (shift-plus k false false u v)
      (ap (λ b. only k b low) (out-plus k false false u v) ∙ only-bit k (out k false u) (out k false v) low)
      ∙ swap k (shift k false u) (shift k false v) (only k (out k false u) low) (only k (out k false v) low)

  -- x times nothing: from the law above, since u + u is nothing
  pub times_x-zeros : times_x k low (zeros k) ≡ zeros k
  times_x-zeros =
      ap (times_x k low) (sym (plus_self k (zeros k))) ∙ times_x-plus (zeros k) (zeros k) ∙ plus_self k (times_x k low (zeros k))

  only-times_x : (b : Bool) (u : Bits k) → only k b (times_x k low u) ≡ times_x k low (only k b u)
  unfolding only
  only-times_x true u = refl
  only-times_x false u = sym times_x-zeros

  row-plus : (m : ℕ) (w : Bits m) (u v : Bits k)
      → times_row k low m w (plus k u v) ≡ plus k (times_row k low m w u) (times_row k low m w v)
  unfolding times_row
  row-plus zero w u v = sym (plus-zeros k (zeros k))
  row-plus (suc m) w u v =
      ap₂ (plus k) (only-plus k w.0 u v)
      (ap (times_x k low) (row-plus m w.1 u v) ∙ times_x-plus (times_row k low m w.1 u) (times_row k low m w.1 v))
      ∙ swap k (only k w.0 u) (only k w.0 v) (times_x k low (times_row k low m w.1 u)) (times_x k low (times_row k low m w.1 v))

  row-times_x : (m : ℕ) (w : Bits m) (u : Bits k) → times_row k low m w (times_x k low u) ≡ times_x k low (times_row k low m w u)
  unfolding times_row
  row-times_x zero w u = sym times_x-zeros
  row-times_x (suc m) w u =
      ap₂ (plus k) (only-times_x w.0 u) (ap (times_x k low) (row-times_x m w.1 u))
      ∙ sym (times_x-plus (only k w.0 u) (times_x k low (times_row k low m w.1 u)))

  row-zeros : (m : ℕ) (w : Bits m) → times_row k low m w (zeros k) ≡ zeros k
  row-zeros m w =
      ap (times_row k low m w) (sym (plus_self k (zeros k)))
      ∙ row-plus m w (zeros k) (zeros k) ∙ plus_self k (times_row k low m w (zeros k))

  row-only : (m : ℕ) (w : Bits m) (b : Bool) (u : Bits k) → times_row k low m w (only k b u) ≡ only k b (times_row k low m w u)
  unfolding only
  row-only m w true u = refl
  row-only m w false u = row-zeros m w

  -- two multiplications by rows of bits may change places
  row-row : (m : ℕ) (w : Bits m) (n : ℕ) (z : Bits n) (u : Bits k)
      → times_row k low m w (times_row k low n z u) ≡ times_row k low n z (times_row k low m w u)
  unfolding times_row
  row-row m w zero z u = row-zeros m w
  row-row m w (suc n) z u =
      row-plus m w (only k z.0 u) (times_x k low (times_row k low n z.1 u))
      ∙ ap₂ (plus k) (row-only m w z.0 u)
      (row-times_x m w (times_row k low n z.1 u) ∙ ap (times_x k low) (row-row m w n z.1 u))

  pub times-plus : (u v w : Bits k) → times k low u (plus k v w) ≡ plus k (times k low u v) (times k low u w)
  unfolding times
  times-plus u v w = row-plus k u v w

  pub times-zeros : (u : Bits k) → times k low u (zeros k) ≡ zeros k
  unfolding times
  times-zeros u = row-zeros k u

  pub times-times_x : (u v : Bits k) → times k low u (times_x k low v) ≡ times_x k low (times k low u v)
  unfolding times
  times-times_x u v = row-times_x k u v

  swapped : (u v w : Bits k) → times k low u (times k low v w) ≡ times k low v (times k low u w)
  unfolding times
  swapped u v w = row-row k u k v w

  -- what follows where each polynomial is its own product with 1
  module _ (one : Bits k) (times-one : (u : Bits k) → times k low u one ≡ u) where
    pub times_comm : (u v : Bits k) → times k low u v ≡ times k low v u
    times_comm u v =
        ap (times k low u) (sym (times-one v)) ∙ swapped u v one ∙ ap (times k low v) (times-one u)

    pub times_assoc : (u v w : Bits k) → times k low (times k low u v) w ≡ times k low u (times k low v w)
    times_assoc u v w =
        times_comm (times k low u v) w ∙ swapped w u v ∙ ap (times k low u) (times_comm w v)
