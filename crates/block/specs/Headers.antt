-- The header of a super frame in its block: the starts of the units, what is refused, and the units.
use Rattle.std.specs.Prelude.{◌≡◌, ℕ, zero, suc, ◌+◌, ◌-◌, ◌*◌, ◌<◌, ◌≤◌, Bool, cond, not, ◌&&◌, ◌||◌, List, [], ◌∷◌, map, length, take, drop, is_some, Some, None, Option, Result, ◌==◌, nat_le, nat_lt, slice_index, slice_range}
use Rattle.std.specs.Option.{unwrap_or}
use Rattle.gf.specs.declared.refusal.Refusal.{Refusal}
use Rattle.gf.specs.declared.refusal.Refusal.TheVariants.{Buffer, Fire, Alignment, Starts, Index}
use Rattle.gf.specs.declared.refusal.Refusal.TheVariants as refusals
use Rattle.gf.specs.Refusals.{unless, of_size}
use Rattle.block.specs.declared.parameters.Layout.{Layout}
use Rattle.block.specs.declared.header.Header.{Header}
use Rattle.block.specs.declared.header.UnitPlace.{UnitPlace}
use Rattle.block.specs.Bytes.{unsigned, word}
use Rattle.block.specs.Checks.{fire_word, unit_check}
use Rattle.block.specs.Layouts.{layout, parameters, right}

-- start n: the first unit begins behind the header, the next ones where the 12-bit numbers say that are packed behind the parameters,
-- and the last unit ends where the super frame does, after 110 bytes times the size
abbrev pub start : Layout → ℕ → List ℕ → ℕ → ℕ
start l size packed n =
    cond (n == 0) l.header_length
    (cond (nat_lt n l.units) (unsigned packed (12 * (n - 1)) 12) (cond (n == l.units) (110 * size) 0))

-- the starts, with zeros behind the last
unfoldable pub starts : Layout → ℕ → List ℕ → List ℕ
starts l size packed = map (start l size packed) (0 ∷ 1 ∷ 2 ∷ 3 ∷ 4 ∷ 5 ∷ 6 ∷ [])

-- the first of `count` numbers from n on whose start is less than three bytes after the one before
abbrev pub crowded : List ℕ → ℕ → ℕ → Option ℕ
crowded places n zero = None
crowded places n (suc count) = cond (nat_lt (slice_index places n) (slice_index places (n - 1) + 3)) (Some n) (crowded places (suc n) count)

-- the Fire word in front fits the nine bytes behind it
abbrev pub fire_fits : List ℕ → Bool
fire_fits block = fire_word (take 9 (drop 2 block)) == word block 0

-- the four bits behind the packed starts are zero, where there are such
abbrev pub fills : Layout → List ℕ → Bool
fills l packed = not l.aligned || unsigned packed (12 * (l.units - 1)) 4 == 0

-- the refusal of every call on a block of a size: the buffer has not 120 bytes times the size; then others
abbrev pub of_buffer : ℕ → List ℕ → List (Bool × Refusal) → List (Bool × Refusal)
of_buffer size block others = (not (length block == 120 * size), Buffer) ∷ others

-- the refusals of every call that is given both
abbrev pub of_block : ℕ → List ℕ → List (Bool × Refusal) → List (Bool × Refusal)
of_block size block others = of_size size (of_buffer size block others)

-- the layout that the parameter byte asks for
abbrev pub layout_of : List ℕ → Layout
layout_of block = layout (parameters (slice_index block 2)).dac (parameters (slice_index block 2)).sbr

-- what the bytes of a block write as its header, right or wrong
abbrev pub written : ℕ → List ℕ → Header
written size block = record {
  size = size;
  parameters = parameters (slice_index block 2);
  starts = starts (layout_of block) size (drop 3 block);
}

-- the first start that is too near, of those that the block writes
abbrev pub crowded_of : ℕ → List ℕ → Option ℕ
crowded_of size block = crowded (starts (layout_of block) size (drop 3 block)) 1 (layout_of block).units

-- the refusals of reading a header, each with its condition
abbrev pub complaints : ℕ → List ℕ → List (Bool × Refusal)
complaints size block =
    of_block size block (
    (not (fire_fits block), Fire)
    ∷ (not (right (slice_index block 2)), refusals.Parameters)
    ∷ (not (fills (layout_of block) (drop 3 block)), Alignment ((layout_of block).header_length - 1))
    ∷ (is_some (crowded_of size block), Starts (unwrap_or (crowded_of size block) 0))
    ∷ []
    )

-- The header of a block, or the refusal.
abbrev pub header : ℕ → List ℕ → Result Header Refusal
header size block = unless (complaints size block) (written size block)

-- how many units a header has
abbrev pub unit_count : Header → ℕ
unit_count h = (layout h.parameters.dac h.parameters.sbr).units

-- a header has unit n, with a byte at least and its check before the next start
abbrev pub there : Header → ℕ → Bool
there h n = nat_lt n (unit_count h) && nat_le (slice_index h.starts n + 3) (slice_index h.starts (n + 1))

-- Unit n of a header: from its start to the next, without the two bytes of its check.
abbrev pub unit_at : Header → ℕ → Result UnitPlace Refusal
unit_at h n =
    unless ((not (there h n), Index) ∷ [])
    (record { place = slice_index h.starts n; length = slice_index h.starts (n + 1) - slice_index h.starts n - 2 })

-- the two bytes before the next start are the check of the bytes between
abbrev pub check_fits : Header → List ℕ → ℕ → Bool
check_fits h block n =
    let begin = slice_index h.starts n in
    let end = slice_index h.starts (n + 1) - 2 in
    (unit_check (slice_range block begin end) == word block end)

-- The units of a header stand one behind another from the header's end to the super frame's, each with a byte at least and its check.
pub record Tiles (h : Header) : Type 0 where
  pub first : slice_index h.starts 0 ≡ (layout h.parameters.dac h.parameters.sbr).header_length
  pub apart : (n : ℕ) → n < unit_count h → slice_index h.starts n + 3 ≤ slice_index h.starts (n + 1)
  pub last : slice_index h.starts (unit_count h) ≡ 110 * h.size
