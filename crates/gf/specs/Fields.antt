-- The fields of 2, 16 and 256 elements: one definition over the number of bits and the polynomial.
use Rattle.std.specs.Prelude.{ℕ, suc, ◌+◌}
use Rattle.gf.specs.Theory.{Operations, power}
use Rattle.gf.specs.Bits.{Bits, bits, zeros, plus, equal, times_x, times}

-- Polynomials below x ^ k modulo x ^ k minus `low`, with x for the root. The powers of x come round to 1 after last + 1 steps, so that
-- u times u ^ (2 · last + 1) is 1 for every u but zero: that power is the inverse, and it takes zero to zero.
abbrev pub operations : (k : ℕ) → Bits k → ℕ → Operations (Bits k)
operations k low last = record {
  zero = zeros k;
  one = bits k 1;
  add = plus k;
  neg = λ u. u;
  mul = times k low;
  inv = λ u. power (bits k 1) (times k low) u (suc (last + last));
  equal = equal k;
  root = times_x k low (bits k 1);
  reach = suc last;
}

-- the polynomial x ^ degree minus `low`, modulo which the powers of x come round to 1 after last + 1 steps
pub record Modulus : Type 0 where
  pub degree : ℕ
  pub low : Bits degree
  pub last : ℕ

-- the field of residues modulo that polynomial
abbrev pub residues : (m : Modulus) → Operations (Bits m.degree)
residues m = operations m.degree m.low m.last

-- x = 1
unfoldable pub low2 : Bits 1
unfolding bits
low2 = bits 1 1

-- x ^ 4 = x + 1
unfoldable pub low16 : Bits 4
unfolding bits
low16 = bits 4 3

-- x ^ 8 = x ^ 4 + x ^ 3 + x ^ 2 + 1
unfoldable pub low256 : Bits 8
unfolding bits
low256 = bits 8 29

abbrev pub gf2 : Operations (Bits 1)
gf2 = operations 1 low2 0

abbrev pub gf16 : Operations (Bits 4)
gf16 = operations 4 low16 14

abbrev pub gf256 : Operations (Bits 8)
gf256 = operations 8 low256 254
