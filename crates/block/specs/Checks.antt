-- The Fire word and the check of a unit, as remainders of polynomials over the two-element field.
use Rattle.std.specs.Prelude.{ℕ, zero, suc, ◌+◌, ◌*◌, ◌/◌, Bool, false, cond, ◌||◌, List, [], ◌∷◌, ◌++◌, map, length, replicate, ◌==◌}
use Rattle.gf.specs.declared.gf2.Gf2.{Gf2}
use Rattle.gf.specs.Bits.{Bits, bits, number}
use Rattle.gf.specs.Fields.{gf2}
use Rattle.codes.specs.Polynomials.{zeros, plus}
use Rattle.codes.specs.Division.{remainder_of}

-- the bits of a byte, the top bit first
unfoldable pub byte_bits : ℕ → List (Bits 1)
byte_bits b = map (bits 1) (b / 128 ∷ b / 64 ∷ b / 32 ∷ b / 16 ∷ b / 8 ∷ b / 4 ∷ b / 2 ∷ b ∷ [])

-- bytes as a polynomial: the top bit of the first byte is the coefficient of the highest power
abbrev pub polynomial : List ℕ → List (Bits 1)
polynomial [] = []
polynomial (b ∷ bytes) = byte_bits b ++ polynomial bytes

-- the number that bits write behind those of n, the top bit first
abbrev pub binary : ℕ → List (Bits 1) → ℕ
binary n [] = n
binary n (b ∷ p) = binary (n * 2 + number 1 b) p

-- whether n is one of these
abbrev pub among : ℕ → List ℕ → Bool
among n [] = false
among n (m ∷ ms) = n == m || among n ms

-- the sum of these powers of x, all below the n-th
abbrev pub powers : ℕ → List ℕ → List (Bits 1)
powers zero exponents = []
powers (suc n) exponents = cond (among n exponents) gf2.one gf2.zero ∷ powers n exponents

-- x^16 + x^14 + x^13 + x^12 + x^11 + x^5 + x^3 + x^2 + x + 1
abbrev pub fire_generator : List (Bits 1)
fire_generator = powers 17 (16 ∷ 14 ∷ 13 ∷ 12 ∷ 11 ∷ 5 ∷ 3 ∷ 2 ∷ 1 ∷ 0 ∷ [])

-- x^16 + x^12 + x^5 + 1
abbrev pub unit_generator : List (Bits 1)
unit_generator = powers 17 (16 ∷ 12 ∷ 5 ∷ 0 ∷ [])

-- the bytes times x^16, plus `start` times x^(8L), where L is the number of bytes
abbrev pub covered : List (Bits 1) → List ℕ → List (Bits 1)
covered start bytes = plus gf2 (polynomial bytes ++ zeros gf2 16) (start ++ zeros gf2 (8 * length bytes))

-- The Fire word of bytes: the remainder of the bytes times x^16.
abbrev pub fire_word : List ℕ → ℕ
fire_word bytes = binary 0 (remainder_of gf2 (polynomial bytes ++ zeros gf2 16) fire_generator)

-- The check of a unit of L bytes M: the complement of the remainder of M times x^16 plus sixteen ones times x^(8L).
abbrev pub unit_check : List ℕ → ℕ
unit_check unit = binary 0 (map (gf2.add gf2.one) (remainder_of gf2 (covered (replicate 16 gf2.one) unit) unit_generator))

-- the bits that symbols mean
abbrev pub meanings : List Gf2 → List (Bits 1)
meanings symbols = map (λ s. bits 1 s.0) symbols
