-- What writing a super frame answers, call by call.
use Rattle.std.specs.Prelude.{◌≡◌, ℕ, ◌+◌, ◌-◌, ◌*◌, Bool, true, not, ◌&&◌, List, [], ◌∷◌, ◌++◌, length, replicate, take, drop, Ok, Result, ◌==◌, nat_le, nat_lt, slice_index, slice_set, slice_range}
use Rattle.gf.specs.declared.refusal.Refusal.{Refusal}
use Rattle.gf.specs.declared.refusal.Refusal.TheVariants.{UnitLength, Overfull, Unfinished, Index}
use Rattle.gf.specs.Refusals.{Answers, Performs}
use Rattle.block.specs.declared.settings.Settings.{Settings}
use Rattle.block.specs.declared.writer.OpenWriter.{OpenWriter}
use Rattle.block.specs.declared.writer.SealedWriter.{SealedWriter}
use Rattle.block.specs.Headers.{of_buffer}
use Rattle.block.specs.SuperFrames.{layout_for, superframe, Fill}
use Rattle.block.specs.Places.{has_room, units_in}

-- An open writer with no unit in it: the first will start behind the header.
pub record Begins (s : Settings) (w : OpenWriter) : Type 0 where
  pub settings : w.settings ≡ s
  pub empty : w.added ≡ 0
  pub starts : w.starts ≡ (layout_for s).header_length ∷ replicate 6 0

-- the refusals of adding a unit of so many bytes, each with its condition: all units are in; or the unit is empty or does not fit
abbrev pub add_complaints : OpenWriter → ℕ → List (Bool × Refusal)
add_complaints w long =
    (nat_le (layout_for w.settings).units w.added, Overfull)
    ∷ (not (has_room (110 * w.settings.size) (slice_index w.starts w.added) long ((layout_for w.settings).units - w.added - 1)), UnitLength)
    ∷ []

-- the writer with one more unit, of so many bytes
pub record OneMore (w : OpenWriter) (long : ℕ) (after : OpenWriter) : Type 0 where
  pub settings : after.settings ≡ w.settings
  pub added : after.added ≡ w.added + 1
  pub starts : after.starts ≡ slice_set w.starts (w.added + 1) (slice_index w.starts w.added + long + 2)

-- The unit is copied to where the next one starts, and nothing else is written; or the first refusal is answered, and nothing is changed.
abbrev pub Adds : OpenWriter → OpenWriter → List ℕ → List ℕ → List ℕ → Result Unit Refusal → Type 0
Adds w after unit before block answer =
    let start = slice_index w.starts w.added in
    Performs (of_buffer w.settings.size before (add_complaints w (length unit)))
    (λ _. OneMore w (length unit) after × (block ≡ take start before ++ (unit ++ drop (start + length unit) before)))
    ((after ≡ w) × (block ≡ before)) answer

-- Units are added one by one, each by a call of `add` that is not refused, and nothing else is written to the buffer: first the writer and
-- the buffer as they were, and behind the units what they are then.
abbrev pub AddsAll : OpenWriter → List ℕ → List (List ℕ) → OpenWriter → List ℕ → Type 0
AddsAll w before [] after block = (after ≡ w) × (block ≡ before)
AddsAll w before (unit ∷ units) after block =
    (next : OpenWriter) × (held : List ℕ) × Adds w next unit before held (Ok tt) × AddsAll next held units after block

-- the refusals of sealing, each with its condition: the buffer has another length; or units are missing
abbrev pub sealing_complaints : OpenWriter → List ℕ → List (Bool × Refusal)
sealing_complaints w block =
    of_buffer w.settings.size block ((not (w.added == (layout_for w.settings).units), Unfinished) ∷ [])

-- The buffer becomes the super frame of the units that it holds, which fill it; or the first refusal is answered, and nothing is changed.
abbrev pub Seals : OpenWriter → List ℕ → List ℕ → Result SealedWriter Refusal → Type 0
Seals w before block answer =
    let units = units_in w.starts w.added before in
    Performs (sealing_complaints w before)
    (λ s. (s.size ≡ w.settings.size) × Fill w.settings units × (block ≡ superframe w.settings units)) (block ≡ before) answer

-- The calls of a writer that begins make this of the buffer: the units are added one by one, and then it is sealed.
pub record MadeByCalls (s : Settings) (units : List (List ℕ)) (before block : List ℕ) (sealed : SealedWriter) : Type 0 where
  pub begun : OpenWriter
  pub begins : Begins s begun
  pub whole : OpenWriter
  pub held : List ℕ
  pub added : AddsAll begun before units whole held
  pub seals : Seals whole held block (Ok sealed)

-- Frame n is a fifth of the buffer; or the first refusal is answered.
abbrev pub HandsOut : SealedWriter → List ℕ → ℕ → Result (List ℕ) Refusal → Type 0
HandsOut s block n answer =
    Answers (of_buffer s.size block ((nat_le 5 n, Index) ∷ []))
    (λ frame. frame ≡ slice_range block (24 * s.size * n) (24 * s.size * (n + 1))) answer

-- units one behind another, the first at `start`, so many units in all, each fit
abbrev pub all_fit : ℕ → ℕ → ℕ → List (List ℕ) → Bool
all_fit capacity start left [] = true
all_fit capacity start left (unit ∷ units) =
    has_room capacity start (length unit) (left - 1) && all_fit capacity (start + length unit + 2) (left - 1) units

-- the refusals of making a super frame of settings and units, each with its condition: there are too many units; one is empty or does not
-- fit; or there are too few
abbrev pub making_complaints : Settings → List (List ℕ) → List (Bool × Refusal)
making_complaints s units =
    (nat_lt (layout_for s).units (length units), Overfull)
    ∷ (not (all_fit (110 * s.size) (layout_for s).header_length (layout_for s).units units), UnitLength)
    ∷ (nat_lt (length units) (layout_for s).units, Unfinished)
    ∷ []

-- The buffer becomes the super frame of settings and units; or the first refusal is answered, and nothing is changed.
abbrev pub Makes : Settings → List (List ℕ) → List ℕ → List ℕ → Result SealedWriter Refusal → Type 0
Makes s units before block answer =
    Performs (of_buffer s.size before (making_complaints s units))
    (λ sealed. Fill s units × (sealed.size ≡ s.size) × (block ≡ superframe s units)) (block ≡ before) answer
