-- Numbers read as rows of bits: what xor, and, a remainder by 2 ^ k and a test for equality do to the bits.
use Rattle.std.specs.Prelude.{◌≡◌, ℕ, zero, suc, ◌+◌, ◌*◌, ◌/◌, ◌%◌, ◌^◌, ◌<◌, Bool, true, false, cond, ◌&&◌, ◌==◌, bit_and, bit_xor, nat_eq, refl}
use Rattle.std.proofs.Common.{sym, ap, ap₂, subst, ◌∙◌, mod-lt, mod-eq_of_lt, pow-suc, not-suc-le-zero, le_of_suc-le-suc, eqb-true, eq-eqb, lit<, pow_pos}
use Rattle.std.proofs.Math.Nat.{mod-one}
use Rattle.std.proofs.Math.Arith.{digits_div, digits_mod, digits_lt, mod-mul}
use Rattle.std.specs.Bool.{passes}
use Rattle.std.specs.Cmp.{both_ways}
use Rattle.std.proofs.lemmas.Nat.{and_mod, xor_mod, xor_shr}
use Rattle.gf.specs.Bits.{Bits, differ, bits, number, zeros, plus, equal, only, shift, out, times_x, times_row, times}
use Rattle.gf.specs.Theory.{pow}
use Rattle.gf.specs.Fields.{low2, gf2}
use Rattle.gf.specs.laws.Ring.{pair, equal_yes, equal_no}

bit : (b : Bool) → cond b 1 0 < 2
bit true = lit< tt
bit false = lit< tt

bit_back : (b : Bool) → (cond b 1 0 == 1) ≡ b
bit_back true = refl
bit_back false = refl

pub bits-number : (k : ℕ) (u : Bits k) → bits k (number k u) ≡ u
unfolding bits number
bits-number zero u = refl
bits-number (suc k) u =
    pair (ap (λ (m : ℕ). nat_eq m 1) (digits_mod (number k u.1) (bit u.0)) ∙ bit_back u.0)
    (ap (bits k) (digits_div (number k u.1) (bit u.0)) ∙ bits-number k u.1)

pub number_lt : (k : ℕ) (u : Bits k) → number k u < 2 ^ k
unfolding number
number_lt zero u = lit< tt
number_lt (suc k) u = subst (λ (m : ℕ). number (suc k) u < m) (sym (pow-suc 2 k)) (digits_lt (number_lt k u.1) (bit u.0))

bit-lt : (n : ℕ) → n % 2 < 2
bit-lt n = mod-lt n (lit< tt)

-- what holds at 0 and at 1 holds of each bit
by_bit : (P : ℕ → Type 0) → P 0 → P 1 → (x : ℕ) → x < 2 → P x
by_bit P p q zero h = p
by_bit P p q (suc zero) h = q
by_bit P p q (suc (suc x)) h = absurd (not-suc-le-zero (le_of_suc-le-suc (le_of_suc-le-suc h)))

xor-bit : (x y : ℕ) → x < 2 → y < 2 → (bit_xor x y == 1) ≡ differ (x == 1) (y == 1)
xor-bit x y hx hy =
    by_bit (λ x. (bit_xor x y == 1) ≡ differ (x == 1) (y == 1))
    (by_bit (λ y. (bit_xor 0 y == 1) ≡ differ (0 == 1) (y == 1)) refl refl y hy)
    (by_bit (λ y. (bit_xor 1 y == 1) ≡ differ (1 == 1) (y == 1)) refl refl y hy) x hx

pub bits-xor : (k a b : ℕ) → bits k (bit_xor a b) ≡ plus k (bits k a) (bits k b)
unfolding bits plus
bits-xor zero a b = refl
bits-xor (suc k) a b =
    pair (ap (λ (m : ℕ). nat_eq m 1) (xor_mod a b 1) ∙ xor-bit (a % 2) (b % 2) (bit-lt a) (bit-lt b))
    (ap (bits k) (xor_shr a b 1) ∙ bits-xor k (a / 2) (b / 2))

low : (k n : ℕ) → n % 2 ^ suc k ≡ (n / 2 % 2 ^ k) * 2 + n % 2
low k n = ap (λ (m : ℕ). n % m) (pow-suc 2 k) ∙ mod-mul n (pow_pos k) (lit< tt)

pub bits-mod : (k n : ℕ) → bits k (n % 2 ^ k) ≡ bits k n
unfolding bits
bits-mod zero n = refl
bits-mod (suc k) n =
    pair (ap (λ (m : ℕ). nat_eq (m % 2) 1) (low k n) ∙ ap (λ (m : ℕ). nat_eq m 1) (digits_mod (n / 2 % 2 ^ k) (bit-lt n)))
    (ap (λ (m : ℕ). bits k (m / 2)) (low k n) ∙ ap (bits k) (digits_div (n / 2 % 2 ^ k) (bit-lt n)) ∙ bits-mod k (n / 2))

number_bit : (x : ℕ) → x < 2 → cond (x == 1) 1 0 ≡ x
number_bit x h = by_bit (λ x. cond (x == 1) 1 0 ≡ x) refl refl x h

pub number-bits : (k n : ℕ) → number k (bits k n) ≡ n % 2 ^ k
unfolding bits number
number-bits zero n = sym (mod-one n)
number-bits (suc k) n =
    ap₂ (λ (q r : ℕ). q * 2 + r) (number-bits k (n / 2)) (number_bit (n % 2) (bit-lt n)) ∙ sym (low k n)

-- two numbers mean one row of bits where they leave the same remainder
pub bits-equal : (k a b : ℕ) → (a % 2 ^ k == b % 2 ^ k) ≡ equal k (bits k a) (bits k b)
bits-equal k a b =
    both_ways (a % 2 ^ k == b % 2 ^ k) (equal k (bits k a) (bits k b))
    (λ t. let e = sym (bits-mod k a) ∙ ap (bits k) (eqb-true (a % 2 ^ k) (b % 2 ^ k) t) ∙ bits-mod k b in
    subst (λ v. equal k (bits k a) v ≡ true) e (equal_yes k (bits k a)))
    (λ t. let e = sym (number-bits k a) ∙ ap (number k) (equal_no k (bits k a) (bits k b) (passes _ t)) ∙ number-bits k b in
    eq-eqb (a % 2 ^ k) (b % 2 ^ k) e)

and-bit : (x y : ℕ) → x < 2 → y < 2 → (bit_and x y == 1) ≡ (x == 1 && y == 1)
and-bit x y hx hy =
    by_bit (λ x. (bit_and x y == 1) ≡ (x == 1 && y == 1))
    (by_bit (λ y. (bit_and 0 y == 1) ≡ (0 == 1 && y == 1)) refl refl y hy)
    (by_bit (λ y. (bit_and 1 y == 1) ≡ (1 == 1 && y == 1)) refl refl y hy) x hx

times-bit : (x y : Bool) → ◌≡◌ {A = Bits 1} (x && y, tt) (times 1 low2 (x, tt) (y, tt))
unfolding bits zeros plus only shift out times_x times_row times low2
times-bit true true = refl
times-bit true false = refl
times-bit false true = refl
times-bit false false = refl

pub bits-and : (a b : ℕ) → bits 1 (bit_and a b) ≡ times 1 low2 (bits 1 a) (bits 1 b)
unfolding bits
bits-and a b =
    pair (ap (λ (m : ℕ). nat_eq m 1) (and_mod a b 1) ∙ and-bit (a % 2) (b % 2) (bit-lt a) (bit-lt b)) refl
    ∙ times-bit (a % 2 == 1) (b % 2 == 1)

own_inverse : (x : Bool) → ◌≡◌ {A = Bits 1} (x, tt) (gf2.inv (x, tt))
unfolding bits zeros plus only shift out times_x times_row times low2
own_inverse true = refl
own_inverse false = refl

pub bit-inverse : (a : ℕ) → bits 1 a ≡ gf2.inv (bits 1 a)
unfolding bits
bit-inverse a = own_inverse (a % 2 == 1)

pub bits-equal_whole : (k a b : ℕ) → a < 2 ^ k → b < 2 ^ k → (a == b) ≡ equal k (bits k a) (bits k b)
bits-equal_whole k a b ha hb = ap₂ nat_eq (sym (mod-eq_of_lt ha)) (sym (mod-eq_of_lt hb)) ∙ bits-equal k a b

pub bits-zero : (k : ℕ) → bits k 0 ≡ zeros k
unfolding bits zeros
bits-zero zero = refl
bits-zero (suc k) = pair refl (bits-zero k)

power-one : (i : ℕ) → pow gf2 gf2.root i ≡ gf2.one
unfolding bits zeros plus only shift out times_x times_row times low2
power-one zero = refl
power-one (suc i) = ap (gf2.mul gf2.root) (power-one i)

one_bit : (x : Bool) → ◌≡◌ {A = Bits 1} (x, tt) (gf2.mul (x, tt) gf2.one)
unfolding bits zeros plus only shift out times_x times_row times low2
one_bit true = refl
one_bit false = refl

-- in the field of two elements the root is one, and so are its powers
pub root-power-one : (a i : ℕ) → bits 1 a ≡ gf2.mul (bits 1 a) (pow gf2 gf2.root i)
unfolding bits
root-power-one a i = one_bit (a % 2 == 1) ∙ ap (gf2.mul (bits 1 a)) (sym (power-one i))
