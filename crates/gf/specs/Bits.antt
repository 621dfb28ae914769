-- Rows of bits, the lowest bit first, as polynomials over the two-element field: sum, and product modulo a polynomial.
use Rattle.std.specs.Prelude.{ℕ, zero, suc, ◌+◌, ◌*◌, ◌/◌, ◌%◌, Bool, true, false, cond, not, ◌&&◌, ◌==◌}

-- rows of k bits: bit i is the coefficient of x ^ i
abbrev pub Bits : ℕ → Type 0
Bits zero = Unit {0}
Bits (suc k) = Bool × Bits k

-- the lowest k bits of a number
unfoldable pub bits : (k : ℕ) → ℕ → Bits k
bits zero n = tt
bits (suc k) n = ((n % 2 == 1), bits k (n / 2))

-- the number that a row of bits writes
unfoldable pub number : (k : ℕ) → Bits k → ℕ
number zero u = 0
number (suc k) u = number k u.1 * 2 + cond u.0 1 0

-- all bits 0
unfoldable pub zeros : (k : ℕ) → Bits k
zeros zero = tt
zeros (suc k) = (false, zeros k)

-- the sum of two bits
abbrev pub differ : Bool → Bool → Bool
differ true b = not b
differ false b = b

-- the sum of two polynomials
unfoldable pub plus : (k : ℕ) → Bits k → Bits k → Bits k
plus zero u v = tt
plus (suc k) u v = (differ u.0 v.0, plus k u.1 v.1)

unfoldable pub equal : (k : ℕ) → Bits k → Bits k → Bool
equal zero u v = true
equal (suc k) u v = not (differ u.0 v.0) && equal k u.1 v.1

-- the polynomial, or zero
unfoldable pub only : (k : ℕ) → Bool → Bits k → Bits k
only k true u = u
only k false u = zeros k

-- one place up: the bit b comes in below, and the highest bit goes out
unfoldable pub shift : (k : ℕ) → Bool → Bits k → Bits k
shift zero b u = tt
shift (suc k) b u = (b, shift k u.0 u.1)

-- the bit that goes out
unfoldable pub out : (k : ℕ) → Bool → Bits k → Bool
out zero b u = b
out (suc k) b u = out k u.0 u.1

-- x times a polynomial, modulo x ^ k minus `low`
unfoldable pub times_x : (k : ℕ) → Bits k → Bits k → Bits k
times_x k low u = plus k (shift k false u) (only k (out k false u) low)

-- the product with v of the polynomial that has the m bits u, modulo x ^ k minus `low`
unfoldable pub times_row : (k : ℕ) → Bits k → (m : ℕ) → Bits m → Bits k → Bits k
times_row k low zero u v = zeros k
times_row k low (suc m) u v = plus k (only k u.0 v) (times_x k low (times_row k low m u.1 v))

-- the product modulo x ^ k minus `low`
unfoldable pub times : (k : ℕ) → Bits k → Bits k → Bits k → Bits k
times k low u v = times_row k low k u v
