-- Where the units of an open super frame stand.
use Rattle.std.specs.Prelude.{◌≡◌, ℕ, ◌+◌, ◌-◌, ◌*◌, ◌<◌, ◌≤◌, Bool, not, ◌&&◌, ◌||◌, List, map, length, ◌==◌, nat_le, slice_index, slice_range}
use Rattle.std.specs.List.{range_with_len}
use Rattle.block.specs.declared.settings.Settings.{Settings}
use Rattle.block.specs.SuperFrames.{layout_for}

-- A unit at `start` of `long` bytes, with so many units to follow, is not empty, and with its check leaves room for three bytes for each of
-- them; the last one leaves no room.
abbrev pub has_room : ℕ → ℕ → ℕ → ℕ → Bool
has_room capacity start long following =
    nat_le 1 long && (nat_le (start + long + 2 + 3 * following) capacity && (not (following == 0) || start + long + 2 == capacity))

-- unit n of a buffer, from its start up to its check
abbrev pub unit_in : List ℕ → List ℕ → ℕ → List ℕ
unit_in starts block n = slice_range block (slice_index starts n) (slice_index starts (n + 1) - 2)

-- The first `count` units of a buffer.
abbrev pub units_in : List ℕ → ℕ → List ℕ → List (List ℕ)
units_in starts count block = map (unit_in starts block) (range_with_len 0 count)

-- What the starts of an open writer keep: the units that are in stand one behind another behind the header, and there is room for the others.
pub record Placed (s : Settings) (starts : List ℕ) (added : ℕ) : Type 0 where
  pub long : length starts ≡ 7
  pub few : added ≤ (layout_for s).units
  pub first : slice_index starts 0 ≡ (layout_for s).header_length
  pub apart : (n : ℕ) → n < added → slice_index starts n + 3 ≤ slice_index starts (n + 1)
  pub room : slice_index starts added + 3 * ((layout_for s).units - added) ≤ 110 * s.size
  pub full : added ≡ (layout_for s).units → slice_index starts added ≡ 110 * s.size
