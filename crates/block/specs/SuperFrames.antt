-- The super frame that settings and units make: its whole block, byte by byte.
use Rattle.std.specs.Prelude.{◌≡◌, ℕ, ◌+◌, ◌*◌, ◌/◌, ◌%◌, ◌≤◌, Bool, cond, not, List, [], ◌∷◌, ◌++◌, map, length, take, drop, All, slice_index_or}
use Rattle.std.specs.List.{range_with_len}
use Rattle.gf.specs.declared.refusal.Refusal.{Refusal}
use Rattle.gf.specs.declared.refusal.Refusal.TheVariants as refusals
use Rattle.gf.specs.Bits.{number}
use Rattle.gf.specs.Fields.{gf256}
use Rattle.gf.specs.Refusals.{of_size}
use Rattle.codes.specs.Codewords.{checks_of}
use Rattle.interleaver.specs.Rows.{elements, row_of}
use Rattle.block.specs.declared.parameters.DacRate.{DacRate}
use Rattle.block.specs.declared.parameters.DacRate.TheVariants.{Khz32, Khz48}
use Rattle.block.specs.declared.parameters.ChannelMode.{ChannelMode}
use Rattle.block.specs.declared.parameters.ChannelMode.TheVariants.{Mono, Stereo}
use Rattle.block.specs.declared.parameters.Parameters.{Parameters}
use Rattle.block.specs.declared.parameters.Layout.{Layout}
use Rattle.block.specs.declared.settings.Settings.{Settings}
use Rattle.block.specs.Checks.{fire_word, unit_check}
use Rattle.block.specs.Layouts.{layout, sendable}

-- the subchannel index of settings, and what they say of the audio
abbrev pub size_of : Settings → ℕ
size_of s = s.size

abbrev pub parameters_of : Settings → Parameters
parameters_of s = s.parameters

-- the refusals of settings, each with its condition: the size is not 1 to 24; or surround is above 7, or ps goes without sbr or with stereo
abbrev pub settings_complaints : ℕ → Parameters → List (Bool × Refusal)
settings_complaints size p = of_size size ((not (sendable p), refusals.Settings) ∷ [])

abbrev pub dac_bit : DacRate → ℕ
dac_bit Khz32 = 0
dac_bit Khz48 = 1

abbrev pub mode_bit : ChannelMode → ℕ
mode_bit Mono = 0
mode_bit Stereo = 1

-- From the top bit: rfa, which is 0, dac, sbr, mode, ps, and three bits of surround.
abbrev pub parameter_byte : Parameters → ℕ
parameter_byte p = dac_bit p.dac * 64 + cond p.sbr 1 0 * 32 + mode_bit p.mode * 16 + cond p.ps 1 0 * 8 + p.surround

-- a number of two bytes, the high byte first
abbrev pub two_bytes : ℕ → List ℕ
two_bytes word = word / 256 ∷ word % 256 ∷ []

-- Each unit with its check behind it.
abbrev pub checked_units : List (List ℕ) → List ℕ
checked_units [] = []
checked_units (unit ∷ units) = unit ++ (two_bytes (unit_check unit) ++ checked_units units)

-- Where units start that stand one behind another, each with its check, the first of them at `start`.
abbrev pub unit_starts : ℕ → List (List ℕ) → List ℕ
unit_starts start [] = []
unit_starts start (unit ∷ units) = start ∷ unit_starts (start + length unit + 2) units

-- numbers of twelve bits in digits of four, the highest first
abbrev pub digits : List ℕ → List ℕ
digits [] = []
digits (n ∷ numbers) = n / 256 ∷ n / 16 % 16 ∷ n % 16 ∷ digits numbers

-- Two digits of four bits make a byte, the first above the second. Four zero bits fill the last byte where a digit is left over.
abbrev pub packed : List ℕ → List ℕ
packed [] = []
packed (high ∷ []) = high * 16 ∷ []
packed (high ∷ low ∷ rest) = (high * 16 + low) ∷ packed rest

-- the layout that settings ask for
abbrev pub layout_for : Settings → Layout
layout_for s = layout s.parameters.dac s.parameters.sbr

-- The bytes of the super frame behind the Fire word: the parameters, the starts of all units but the first, and the units.
abbrev pub behind_fire : Settings → List (List ℕ) → List ℕ
behind_fire s units =
    parameter_byte s.parameters ∷ (packed (digits (drop 1 (unit_starts (layout_for s).header_length units))) ++ checked_units units)

-- The super frame without the checks of the rows: in front stands the Fire word of the next nine bytes.
abbrev pub super_frame_data : Settings → List (List ℕ) → List ℕ
super_frame_data s units = two_bytes (fire_word (take 9 (behind_fire s units))) ++ behind_fire s units

-- the ten checks of row i of a super frame, as bytes
abbrev pub row_checks : ℕ → List ℕ → ℕ → List ℕ
row_checks size frame i = map (number 8) (checks_of gf256 10 (elements (row_of size 110 frame i)))

-- The checks of all rows: check j of row i is byte i + size · j of them.
abbrev pub all_row_checks : ℕ → List ℕ → List ℕ
all_row_checks size frame =
    map (λ k. slice_index_or (row_checks size frame (k % size)) (k / size) 0) (range_with_len 0 (10 * size))

-- The block of the super frame that settings and units make.
unfoldable pub superframe : Settings → List (List ℕ) → List ℕ
superframe s units = super_frame_data s units ++ all_row_checks s.size (super_frame_data s units)

-- So many units, each of a byte at least, fill the super frame with their checks to its last byte.
pub record Fill (s : Settings) (units : List (List ℕ)) : Type 0 where
  pub count : length units ≡ (layout_for s).units
  pub some : All (λ unit. 1 ≤ length unit) units
  pub full : (layout_for s).header_length + length (checked_units units) ≡ 110 * s.size
