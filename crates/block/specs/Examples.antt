-- Worked examples that the trade knows, in the words of the definitions.
use Rattle.std.specs.Prelude.{◌≡◌, ℕ, true, List, [], ◌∷◌, ◌++◌, replicate, length, drop, Some, Err}
use Rattle.gf.specs.declared.refusal.Refusal.TheVariants as refusals
use Rattle.gf.specs.Bits.{bits}
use Rattle.gf.specs.Fields.{gf16, gf256}
use Rattle.gf.specs.Refusals.{entry}
use Rattle.codes.specs.Codewords.{checks_of, Filled}
use Rattle.interleaver.specs.Rows.{elements, RowRepaired, AllCodewords}
use Rattle.block.specs.declared.fault.HeaderFault.TheVariants as faults
use Rattle.block.specs.Checks.{fire_word, unit_check}
use Rattle.block.specs.Layouts.{refused, parameters, right, read, layout}
use Rattle.block.specs.Headers.{fire_fits, layout_of, header}

-- a row of zeros, which is also a whole block of size 1
abbrev pub all_zeros : List ℕ
all_zeros = replicate 120 0

-- such a row with five bytes wrong
abbrev pub five_wrong : List ℕ
five_wrong = replicate 109 0 ++ (0x01 ∷ 0xD8 ∷ 0xC2 ∷ 0x9F ∷ 0x6F ∷ replicate 6 0)

-- the data of a row that ends in 01 hex, and their checks

abbrev pub zeros_and_one : List ℕ
zeros_and_one = replicate 109 0 ++ (0x01 ∷ [])

abbrev pub checks_of_one : List ℕ
checks_of_one = 0xD8 ∷ 0xC2 ∷ 0x9F ∷ 0x6F ∷ 0xC7 ∷ 0x5E ∷ 0x5F ∷ 0x71 ∷ 0x9D ∷ 0xC1 ∷ []

pub record WorkedExamples : Type 0 where
  -- in the field of 256 elements 80 hex times 2 is 1D hex
  pub product256 : gf256.mul (bits 8 0x80) (bits 8 2) ≡ bits 8 0x1D
  -- in the field of 16 elements 8 times 2 is 3
  pub product16 : gf16.mul (bits 4 8) (bits 4 2) ≡ bits 4 3
  -- in that field, with two checks, the data 1 has the checks 3, 2
  pub checks16 : checks_of gf16 2 (bits 4 1 ∷ []) ≡ bits 4 3 ∷ bits 4 2 ∷ []
  -- the ten checks of a row whose data are 109 zeros and 01 hex
  pub checks256 : checks_of gf256 10 (elements zeros_and_one) ≡ elements checks_of_one
  -- so these are what filling the checks of that row writes, whatever stood in their place
  pub filled256 : (behind after : List ℕ) → length behind ≡ 10 → Filled gf256 (bits 8) 10 (zeros_and_one ++ behind) after
      → drop 110 (elements after) ≡ elements checks_of_one
  -- five wrong bytes in a row of zeros are corrected
  pub corrected : RowRepaired 10 five_wrong all_zeros (Some 5)
  -- the Fire word of eight zeros and 01 hex
  pub fire : fire_word (replicate 8 0 ++ (0x01 ∷ [])) ≡ 0x782F
  -- the checks of two units of one byte
  pub check_of_ones : unit_check (0xFF ∷ []) ≡ 0x00FF
  pub check_of_zeros : unit_check (0x00 ∷ []) ≡ 0x1E0F
  -- The block of 120 zeros: its row is a codeword, its Fire word fits, and its layout has four units.
  pub zeros_codeword : AllCodewords 1 120 10 all_zeros
  pub zeros_fire : fire_fits all_zeros ≡ true
  pub zeros_units : (layout_of all_zeros).units ≡ 4
  -- its header is refused by 12, with place 1
  pub zeros_header : header 1 all_zeros ≡ Err (refusals.Starts 1)
  pub starts_number : (entry (refusals.Starts 1)).number ≡ 12
  pub starts_place : (entry (refusals.Starts 1)).place ≡ 1
  -- the parameters 68 hex are right, and have three units
  pub right68 : right 0x68 ≡ true
  pub units68 : (layout (parameters 0x68).dac (parameters 0x68).sbr).units ≡ 3
  -- the parameters 78 hex are refused by 10, with place 2
  pub refused78 : read 0x78 ≡ Err faults.Parameters
  pub parameters_number : (entry (refused faults.Parameters)).number ≡ 10
  pub parameters_place : (entry (refused faults.Parameters)).place ≡ 2

-- all of them hold
unfoldable pub ExamplesHold : Type 0
ExamplesHold = WorkedExamples
