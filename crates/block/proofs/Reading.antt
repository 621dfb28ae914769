-- Numbers in a run of bytes: within a byte, and across two.
use Rattle.std.proofs.Common.{◌≡◌, ℕ, zero, suc, ◌+◌, ◌-◌, ◌*◌, ◌/◌, ◌%◌, ◌^◌, ◌<◌, ◌≤◌, List, get_or, sym, ap, ◌∙◌, ap₂, add-zero, add_assoc, add-suc, mul_assoc, pow-suc, div-one, arith, lit<, lit≤, pow_pos}
use native.Mathlib.Nat.{mod-one, pow-zero, div-div-eq-div-mul}
use lib.Arith.{mod-mul}
use Rattle.block.specs.Bytes.{bit, unsigned, word}

-- a number in two parts
pub unsigned_split : (b : List ℕ) (from v w : ℕ) → unsigned b from (v + w) ≡ unsigned b from v * 2 ^ w + unsigned b (from + v) w
unfolding unsigned
unsigned_split b from v zero =
    ap (unsigned b from) (add-zero v) ∙ omega (arith, pow-zero 2)
unsigned_split b from v (suc w) =
    ap (unsigned b from) (add-suc v w)
    ∙ ap₂ (λ (m k : ℕ). m * 2 + bit b k) (unsigned_split b from v w) (sym (add_assoc from v w))
    ∙ regroup
  where
    regroup : (unsigned b from v * 2 ^ w + unsigned b (from + v) w) * 2 + bit b (from + v + w)
        ≡ unsigned b from v * 2 ^ suc w + (unsigned b (from + v) w * 2 + bit b (from + v + w))
    regroup = omega (arith, pow-suc 2 w, mul_assoc (unsigned b from v) (2 ^ w) 2, ap (λ (p : ℕ). unsigned b from v * p) (pow-suc 2 w))

whole : (x : ℕ) → x < 256 → x / 1 % 256 ≡ x
whole x h = omega arith

-- a number within one byte
pub unsigned_within : (b : List ℕ) (j o w : ℕ) → o + w ≤ 8 → unsigned b (8 * j + o) w ≡ get_or b j 0 / 2 ^ (8 - (o + w)) % 2 ^ w
unfolding unsigned
unsigned_within b j o zero h = sym (ap (λ (p : ℕ). get_or b j 0 / 2 ^ (8 - (o + 0)) % p) (pow-zero 2) ∙ mod-one _)
unsigned_within b j o (suc w) h =
    ap₂ (λ (m n : ℕ). m * 2 + n) (unsigned_within b j o w (omega arith) ∙ upper) lowest
    ∙ sym (mod-mul y (pow_pos w) (lit< tt)) ∙ ap₂ (λ (k p : ℕ). get_or b j 0 / 2 ^ k % p) behind (sym (pow-suc 2 w))
  where
    e : ℕ
    e = 7 - (o + w)

    y : ℕ
    y = get_or b j 0 / 2 ^ e

    behind : e ≡ 8 - (o + suc w)
    behind = omega arith

    one_more : 8 - (o + w) ≡ suc e
    one_more = omega arith

    upper : get_or b j 0 / 2 ^ (8 - (o + w)) % 2 ^ w ≡ y / 2 % 2 ^ w
    upper =
        ap (λ (k : ℕ). get_or b j 0 / k % 2 ^ w) (ap (λ (k : ℕ). 2 ^ k) one_more ∙ pow-suc 2 e)
        ∙ ap (λ (k : ℕ). k % 2 ^ w) (sym (div-div-eq-div-mul (get_or b j 0) (2 ^ e) 2))

    lowest : bit b (8 * j + o + w) ≡ y % 2
    lowest = ap₂ (λ (i k : ℕ). get_or b i 0 / 2 ^ (7 - k) % 2) quotient rest
      where
        quotient : (8 * j + o + w) / 8 ≡ j
        quotient = omega arith

        rest : (8 * j + o + w) % 8 ≡ o + w
        rest = omega arith

-- the four lower bits of a byte
pub unsigned_lower : (b : List ℕ) (j : ℕ) → unsigned b (8 * j + 4) 4 ≡ get_or b j 0 % 16
unsigned_lower b j = unsigned_within b j 4 4 (lit≤ tt) ∙ ap (λ (x : ℕ). x % 16) (div-one (get_or b j 0))

-- the packed number that begins with a byte: the upper twelve bits of two bytes
pub unsigned_first : (b : List ℕ) (j : ℕ) → get_or b j 0 < 256 → get_or b (j + 1) 0 < 256 → unsigned b (8 * j) 12 ≡ word b j / 16
unsigned_first b j h k =
    unsigned_split b (8 * j) 8 4
    ∙ ap₂ (λ (m n : ℕ). m * 16 + n)
    (ap (λ (from : ℕ). unsigned b from 8) (sym (add-zero (8 * j))) ∙ unsigned_within b j 0 8 (lit≤ tt) ∙ whole (get_or b j 0) h)
    (ap (λ (from : ℕ). unsigned b from 4) next ∙ unsigned_within b (j + 1) 0 4 (lit≤ tt) ∙ upper)
    ∙ joined
  where
    next : 8 * j + 8 ≡ 8 * (j + 1) + 0
    next = omega arith

    upper : get_or b (j + 1) 0 / 2 ^ 4 % 2 ^ 4 ≡ get_or b (j + 1) 0 / 16
    upper = omega arith

    joined : get_or b j 0 * 16 + get_or b (j + 1) 0 / 16 ≡ (get_or b j 0 * 256 + get_or b (j + 1) 0) / 16
    joined = omega arith

-- the packed number that begins in the middle of a byte: the lower twelve bits of two bytes
pub unsigned_second : (b : List ℕ) (j : ℕ) → get_or b (j + 1) 0 < 256 → unsigned b (8 * j + 4) 12 ≡ word b j % 4096
unsigned_second b j k =
    unsigned_split b (8 * j + 4) 4 8
    ∙ ap₂ (λ (m n : ℕ). m * 256 + n)
    (unsigned_lower b j)
    (ap (λ (from : ℕ). unsigned b from 8) next ∙ unsigned_within b (j + 1) 0 8 (lit≤ tt) ∙ whole (get_or b (j + 1) 0) k)
    ∙ joined
  where
    next : 8 * j + 4 + 4 ≡ 8 * (j + 1) + 0
    next = omega arith

    joined : get_or b j 0 % 16 * 256 + get_or b (j + 1) 0 ≡ (get_or b j 0 * 256 + get_or b (j + 1) 0) % 4096
    joined = omega arith
