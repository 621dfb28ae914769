-- The rows of k bits are a field where the powers of x go through all of them but zero, which the tables show.
use Rattle.std.specs.Prelude.{◌≡◌, ℕ, zero, suc, ◌+◌, ◌*◌, ◌^◌, ◌<◌, ◌≤◌, true, T, List, [], ◌∷◌, ◌==◌, ◌≢◌, nat_eq, nat_lt, slice_index}
use Rattle.std.proofs.Math.Path.{refl, sym, ap, ap₂}
use Rattle.std.proofs.Common.{subst, ◌∙◌, add-suc, add-zero, add_comm, suc-add, zero-add, mul-zero, mul_comm, mul_assoc, le_of_suc-le-suc, not-suc-le-zero, T_not, pow_pos}
use Rattle.std.proofs.Math.Nat.{mul-suc}
use native.Mathlib.Omega.{arith}
use Rattle.std.proofs.Math.Dec.{eqb→eq, ltb→lt}
use Rattle.std.specs.Bool.{passes}
use Rattle.gf.specs.Theory.{Laws, power}
use Rattle.gf.specs.Bits.{Bits, bits, number, zeros, equal, times_x, times}
use Rattle.gf.specs.Fields.{operations}
use Rattle.gf.specs.laws.Tests.{and_left, and_right, below_at}
use Rattle.gf.specs.laws.Numbers.{bits-number, number_lt}
use Rattle.gf.specs.laws.Computed.{walk, entry, turned, Tables, Sound}
use Rattle.gf.specs.laws.Ring.{plus_assoc, plus_comm, plus-zeros, plus_self, equal_yes, equal_no, times-plus, times-zeros, times-times_x, times_comm, times_assoc}

-- the powers of x
unfoldable pub up : (k : ℕ) → Bits k → ℕ → Bits k
up k low zero = bits k 1
up k low (suc i) = times_x k low (up k low i)

abbrev pub inverse : (k : ℕ) → Bits k → ℕ → Bits k → Bits k
inverse k low last = (operations k low last).inv

module _ (k : ℕ) (low : Bits k) where
  walk_at : (n : ℕ) (xs : List ℕ) (j : ℕ) → T (walk k low n xs (up k low j)) → (i : ℕ) → i < n → bits k (slice_index xs i) ≡ up k low (j + i)
  unfolding walk up
  walk_at zero xs j t i h = absurd (not-suc-le-zero h)
  walk_at (suc n) [] j t i h = absurd t
  walk_at (suc n) (x ∷ xs) j t zero h =
      equal_no k (bits k x) (up k low j) (and_left (equal k (bits k x) (up k low j)) (walk k low n xs (up k low (suc j))) t)
      ∙ ap (up k low) (sym (add-zero j))
  walk_at (suc n) (x ∷ xs) j t (suc i) h =
      walk_at n xs (suc j) (and_right (equal k (bits k x) (up k low j)) (walk k low n xs (up k low (suc j))) t) i (le_of_suc-le-suc h)
      ∙ ap (up k low) (suc-add j i ∙ sym (add-suc j i))

module _ (k : ℕ) (low : Bits k) (last : ℕ) (t : Tables) (s : Sound k low last t) where
  pub times-one : (u : Bits k) → times k low u (bits k 1) ≡ u
  times-one u =
      subst (λ v. times k low v (bits k 1) ≡ v) (bits-number k u)
      (equal_no k _ _ (below_at (λ m. equal k (times k low (bits k m) (bits k 1)) (bits k m)) (2 ^ k) s.spans (number k u) (number_lt k u)))

  pub comm : (u v : Bits k) → times k low u v ≡ times k low v u
  comm u v = times_comm k low (bits k 1) times-one u v

  pub assoc : (u v w : Bits k) → times k low (times k low u v) w ≡ times k low u (times k low v w)
  assoc u v w = times_assoc k low (bits k 1) times-one u v w

  times_x-times : (u v : Bits k) → times k low (times_x k low u) v ≡ times_x k low (times k low u v)
  times_x-times u v = comm (times_x k low u) v ∙ times-times_x k low v u ∙ ap (times_x k low) (comm v u)

  pub up-add : (i j : ℕ) → up k low (i + j) ≡ times k low (up k low i) (up k low j)
  unfolding up
  up-add zero j = ap (up k low) (zero-add j) ∙ sym (times-one (up k low j)) ∙ comm (up k low j) (bits k 1)
  up-add (suc i) j =
      ap (up k low) (suc-add i j) ∙ ap (times_x k low) (up-add i j) ∙ sym (times_x-times (up k low i) (up k low j))

  up-power : (i m : ℕ) → power (bits k 1) (times k low) (up k low i) m ≡ up k low (i * m)
  unfolding up
  up-power i zero = ap (up k low) (sym (mul-zero i))
  up-power i (suc m) =
      ap (times k low (up k low i)) (up-power i m) ∙ sym (up-add i (i * m)) ∙ ap (up k low) (sum i m)
    where
      sum : (i m : ℕ) → i + i * m ≡ i * suc m
      sum i m = omega (arith, mul-suc i m)

  -- the table of powers
  pub exp_at : (i : ℕ) → i < suc last + suc last → bits k (slice_index t.exps i) ≡ up k low i
  unfolding up
  exp_at i h = walk_at k low (suc last + suc last) t.exps 0 s.powers i h ∙ ap (up k low) (zero-add i)

  up_round : up k low (suc last) ≡ bits k 1
  up_round = sym (exp_at (suc last) (omega arith)) ∙ ap (bits k) (eqb→eq _ _ s.round)

  up_rounds : (j : ℕ) → up k low (suc last * j) ≡ bits k 1
  unfolding up
  up_rounds zero = ap (up k low) (mul-zero (suc last))
  up_rounds (suc j) =
      ap (up k low) (mul-suc (suc last) j) ∙ up-add (suc last * j) (suc last)
      ∙ ap₂ (times k low) (up_rounds j) up_round ∙ times-one (bits k 1)

  log_at : (m : ℕ) → suc m < 2 ^ k → (slice_index t.logs (suc m) < suc last) × (slice_index t.exps (slice_index t.logs (suc m)) ≡ suc m)
  unfolding entry
  log_at m h =
      let test = below_at (entry last t.exps t.logs) (2 ^ k) s.entries (suc m) h in (
        ltb→lt _ _ (and_left (nat_lt (slice_index t.logs (suc m)) (suc last)) (slice_index t.exps (slice_index t.logs (suc m)) == suc m) test),
        eqb→eq _ _ (and_right (nat_lt (slice_index t.logs (suc m)) (suc last)) (slice_index t.exps (slice_index t.logs (suc m)) == suc m) test),
      )

  -- each number but 0 is the power of x at its exponent
  pub log-up : (m : ℕ) → suc m < 2 ^ k → up k low (slice_index t.logs (suc m)) ≡ bits k (suc m)
  log-up m h =
      let l = log_at m h in
      sym (exp_at (slice_index t.logs (suc m)) (omega (arith, l.0))) ∙ ap (bits k) l.1

  bits-zero : bits k 0 ≡ zeros k
  bits-zero = equal_no k (bits k 0) (zeros k) s.zero_bits

  -- each element but zero is a power of x
  is_up : (u : Bits k) → (u ≢ zeros k) → (i : ℕ) × (up k low i ≡ u)
  is_up u ne = by (number k u) (number_lt k u) (bits-number k u)
    where
      by : (m : ℕ) → m < 2 ^ k → bits k m ≡ u → (i : ℕ) × (up k low i ≡ u)
      by zero h e = absurd (ne (sym e ∙ bits-zero))
      by (suc m) h e = (slice_index t.logs (suc m), log-up m h ∙ e)

  pub inverse-right : (u : Bits k) → (u ≢ zeros k) → times k low u (inverse k low last u) ≡ bits k 1
  inverse-right u ne =
      let p = is_up u ne in
      subst (λ v. power (bits k 1) (times k low) v (suc (suc (last + last))) ≡ bits k 1) p.1
      (up-power p.0 (suc (suc (last + last))) ∙ ap (up k low) (turns p.0) ∙ up_rounds (p.0 * 2))
    where
      turns : (i : ℕ) → i * suc (suc (last + last)) ≡ suc last * (i * 2)
      turns i = ap (λ (m : ℕ). i * m) (omega arith) ∙ sym (mul_assoc i (suc last) 2) ∙ ap (λ (m : ℕ). m * 2) (mul_comm i (suc last)) ∙ mul_assoc (suc last) i 2

  pub inverse-zeros : inverse k low last (zeros k) ≡ zeros k
  inverse-zeros = comm (zeros k) (power (bits k 1) (times k low) (zeros k) (last + last)) ∙ times-zeros k low _

  root-up : (i : ℕ) → power (bits k 1) (times k low) (times_x k low (bits k 1)) i ≡ up k low i
  unfolding up
  root-up zero = refl
  root-up (suc i) =
      times_x-times (bits k 1) (power (bits k 1) (times k low) (times_x k low (bits k 1)) i)
      ∙ ap (times_x k low) (comm (bits k 1) _ ∙ times-one _ ∙ root-up i)

  up-log : (i : ℕ) → i < suc last → slice_index t.logs (number k (up k low i)) ≡ i
  up-log i h =
      ap (λ u. slice_index t.logs (number k u)) (sym (exp_at i (omega arith)))
      ∙ eqb→eq _ _ (below_at (λ i. nat_eq (slice_index t.logs (number k (bits k (slice_index t.exps i)))) i) (suc last) s.back i h)

  pub differ-powers : (i j : ℕ) → i < suc last → j < suc last
      → power (bits k 1) (times k low) (times_x k low (bits k 1)) i ≡ power (bits k 1) (times k low) (times_x k low (bits k 1)) j → i ≡ j
  differ-powers i j hi hj e =
      sym (up-log i hi) ∙ ap (λ u. slice_index t.logs (number k u)) (sym (root-up i) ∙ e ∙ root-up j) ∙ up-log j hj

  pub unequal : bits k 1 ≡ zeros k → ⊥
  unequal e = T_not (equal k (bits k 1) (zeros k)) s.unequal (passes _ (subst (λ w. equal k (bits k 1) w ≡ true) e (equal_yes k (bits k 1))))

  -- what the tables are good for: the product by two exponents, and an inverse by a table of inverses

  -- an exponent is within the table of powers
  pub log-le : (a : ℕ) → a < 2 ^ k → slice_index t.logs a ≤ suc last + suc last
  unfolding entry
  log-le zero h = omega (arith, eqb→eq _ _ (below_at (entry last t.exps t.logs) (2 ^ k) s.entries 0 h))
  log-le (suc m) h = omega (arith, (log_at m h).0)

  zero-times : (u : Bits k) → times k low (bits k 0) u ≡ zeros k
  zero-times u = ap (λ v. times k low v u) bits-zero ∙ comm (zeros k) u ∙ times-zeros k low u

  -- behind the powers stand zeros
  zero-entry : (i : ℕ) → i ≤ suc last + suc last → bits k (slice_index t.exps (slice_index t.logs 0 + i)) ≡ zeros k
  unfolding entry
  zero-entry i h =
      let z : slice_index t.logs 0 ≡ suc last + suc last = eqb→eq _ _ (below_at (entry last t.exps t.logs) (2 ^ k) s.entries 0 (pow_pos k)) in
      let l : i < suc (suc last + suc last) = omega arith in
      ap (λ (n : ℕ). bits k (slice_index t.exps (n + i))) z
      ∙ ap (bits k) (eqb→eq _ _ (below_at (λ j. nat_eq (slice_index t.exps ((suc last + suc last) + j)) 0) (suc (suc last + suc last)) s.padding i l))
      ∙ bits-zero

  pub product : (a b : ℕ) → a < 2 ^ k → b < 2 ^ k → bits k (slice_index t.exps (slice_index t.logs a + slice_index t.logs b)) ≡ times k low (bits k a) (bits k b)
  product zero b ha hb = zero-entry (slice_index t.logs b) (log-le b hb) ∙ sym (zero-times (bits k b))
  product (suc a) zero ha hb =
      ap (λ (i : ℕ). bits k (slice_index t.exps i)) (add_comm (slice_index t.logs (suc a)) (slice_index t.logs 0))
      ∙ zero-entry (slice_index t.logs (suc a)) (log-le (suc a) ha) ∙ sym (comm (bits k (suc a)) (bits k 0) ∙ zero-times (bits k (suc a)))
  product (suc a) (suc b) ha hb =
      exp_at (slice_index t.logs (suc a) + slice_index t.logs (suc b)) (omega (arith, (log_at a ha).0, (log_at b hb).0))
      ∙ up-add (slice_index t.logs (suc a)) (slice_index t.logs (suc b)) ∙ ap₂ (times k low) (log-up a ha) (log-up b hb)

  -- the product with a power of the root
  pub root-product : (a i : ℕ) → a < 2 ^ k → i ≤ suc last
      → bits k (slice_index t.exps (slice_index t.logs a + i)) ≡ times k low (bits k a) (power (bits k 1) (times k low) (times_x k low (bits k 1)) i)
  root-product zero i ha hi = zero-entry i (omega arith) ∙ sym (zero-times _)
  root-product (suc a) i ha hi =
      exp_at (slice_index t.logs (suc a) + i) (omega (arith, (log_at a ha).0))
      ∙ up-add (slice_index t.logs (suc a)) i ∙ ap₂ (times k low) (log-up a ha) (sym (root-up i))

  -- what has the product 1 with u is the inverse of u
  only-inverse : (u v : Bits k) → (u ≢ zeros k) → times k low u v ≡ bits k 1 → v ≡ inverse k low last u
  only-inverse u v ne e =
      sym (times-one v) ∙ ap (times k low v) (sym (inverse-right u ne)) ∙ sym (assoc v u (inverse k low last u))
      ∙ ap (λ w. times k low w (inverse k low last u)) (comm v u ∙ e) ∙ comm (bits k 1) _ ∙ times-one _

  pub inverted : (a : ℕ) → a < 2 ^ k
      → bits k (slice_index t.invs a) ≡ inverse k low last (bits k a)
  unfolding turned
  inverted zero h =
      ap (bits k) (eqb→eq _ _ (below_at (turned k t.exps t.logs t.invs) (2 ^ k) s.inverses 0 h)) ∙ bits-zero
      ∙ sym (ap (inverse k low last) bits-zero ∙ inverse-zeros)
  inverted (suc a) h =
      let x = below_at (turned k t.exps t.logs t.invs) (2 ^ k) s.inverses (suc a) h in
      let l = ltb→lt _ _ (and_left (nat_lt (slice_index t.invs (suc a)) (2 ^ k)) (slice_index t.exps (slice_index t.logs (suc a) + slice_index t.logs (slice_index t.invs (suc a))) == 1) x) in
      let e = eqb→eq _ _ (and_right (nat_lt (slice_index t.invs (suc a)) (2 ^ k)) (slice_index t.exps (slice_index t.logs (suc a) + slice_index t.logs (slice_index t.invs (suc a))) == 1) x) in
      let p = sym (product (suc a) (slice_index t.invs (suc a)) h l) ∙ ap (bits k) e in
      only-inverse (bits k (suc a)) (bits k (slice_index t.invs (suc a)))
      (λ z. unequal (sym p ∙ ap (λ w. times k low w (bits k (slice_index t.invs (suc a)))) (z ∙ sym bits-zero) ∙ zero-times _)) p

  -- the rows of k bits with these tables are a field
  pub laws : Laws (operations k low last)
  laws = record {
    add_assoc = plus_assoc k;
    add_comm = plus_comm k;
    add-zero = plus-zeros k;
    add-neg = plus_self k;
    mul_assoc = assoc;
    mul_comm = comm;
    mul-one = times-one;
    mul-add = times-plus k low;
    one-zero = unequal;
    mul-inv = inverse-right;
    inv-zero = inverse-zeros;
    equal_yes = λ u v e. subst (λ w. equal k u w ≡ true) e (equal_yes k u);
    equal_no = λ u v e. equal_no k u v (passes (equal k u v) e);
    powers-differ = differ-powers;
  }
