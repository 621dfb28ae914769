-- Numbers in a run of bytes, the top bit of each byte first.
use Rattle.std.specs.Prelude.{ℕ, zero, suc, ◌+◌, ◌-◌, ◌*◌, ◌/◌, ◌%◌, ◌^◌, List, slice_index}

-- bit k of the bytes
abbrev pub bit : List ℕ → ℕ → ℕ
bit bytes k = slice_index bytes (k / 8) / 2 ^ (7 - k % 8) % 2

-- the number that `width` bits write from bit `from` on
unfoldable pub unsigned : List ℕ → ℕ → ℕ → ℕ
unsigned bytes from zero = 0
unsigned bytes from (suc width) = unsigned bytes from width * 2 + bit bytes (from + width)

-- the two bytes from byte k on as one number, the high byte first
abbrev pub word : List ℕ → ℕ → ℕ
word bytes k = slice_index bytes k * 256 + slice_index bytes (k + 1)
