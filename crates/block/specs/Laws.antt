-- What the calls of a writer come to, and what writing and reading a super frame do to each other.
use Rattle.std.specs.Prelude.{◌≡◌, ℕ, ◌*◌, ◌<◌, ◌≤◌, true, List, ◌∷◌, ◌++◌, length, All, None, Ok, Result}
use Rattle.gf.specs.declared.refusal.Refusal.{Refusal}
use Rattle.gf.specs.Refusals.{first_refusal}
use Rattle.interleaver.specs.declared.repair.Repair.{Repair}
use Rattle.interleaver.specs.Rows.{AreBytes}
use Rattle.block.specs.declared.header.Header.{Header}
use Rattle.block.specs.declared.settings.Settings.{Settings}
use Rattle.block.specs.declared.writer.OpenWriter.{OpenWriter}
use Rattle.block.specs.declared.writer.SealedWriter.{SealedWriter}
use Rattle.block.specs.BlockRows.{RowsRepaired, RowsRight}
use Rattle.block.specs.Headers.{header, unit_count, check_fits}
use Rattle.block.specs.SuperFrames.{settings_complaints, superframe, Fill}
use Rattle.block.specs.Places.{units_in}
use Rattle.block.specs.Writing.{Begins, Adds, AddsAll, Seals, making_complaints}

-- Legible: when each row is corrected, or left as it was, Fire word, parameters, alignment and starts are right, and the header says h.
pub record Legible (size : ℕ) (block : List ℕ) (h : Header) : Type 0 where
  pub repaired : List ℕ
  pub repair : Repair
  pub bytes : AreBytes repaired
  pub rows : RowsRepaired size block repaired repair
  pub right : header size repaired ≡ Ok h

-- Clean: every row is corrected, and none is left.
pub record Clean (size : ℕ) (block : List ℕ) : Type 0 where
  pub in_range : (1 ≤ size) × (size ≤ 24)
  pub long : length block ≡ 120 * size
  pub repaired : List ℕ
  pub repair : Repair
  pub bytes : AreBytes repaired
  pub rows : RowsRepaired size block repaired repair
  pub none_left : repair.rows_left ≡ 0

-- Flawless, or a written super frame: legible, every row is a codeword, and every unit's check is right.
pub record Flawless (size : ℕ) (block : List ℕ) (h : Header) : Type 0 where
  pub legible : Legible size block h
  pub codewords : RowsRight size block
  pub good : (n : ℕ) → n < unit_count h → check_fits h block n ≡ true

-- the answer of a repair that changes nothing and leaves no row
abbrev pub untouched : Repair
untouched = record { changed = 0; rows_left = 0; lowest_left = None }

-- A block says these settings and units: repair changes no byte and leaves no row; the header says the settings; and the units are those that
-- the block holds, each with its check.
pub record Says (s : Settings) (units : List (List ℕ)) (block : List ℕ) : Type 0 where
  pub repaired : RowsRepaired s.size block block untouched
  pub h : Header
  pub opened : header s.size block ≡ Ok h
  pub parameters : h.parameters ≡ s.parameters
  pub count : unit_count h ≡ length units
  pub held : units_in h.starts (unit_count h) block ≡ units
  pub good : (n : ℕ) → n < unit_count h → check_fits h block n ≡ true

-- A block of bytes reads as these settings and units: it says them, and nothing else is a repair of it. So it is flawless.
pub record ReadsAs (s : Settings) (units : List (List ℕ)) (block : List ℕ) : Type 0 where
  pub bytes : AreBytes block
  pub says : Says s units block
  pub once : (after : List ℕ) (repair : Repair) → AreBytes after → RowsRepaired s.size block after repair → (after ≡ block) × (repair ≡ untouched)
  pub flawless : Flawless s.size block says.h

-- Opening what was sealed gives the settings and the units, and of units of bytes what was sealed is flawless.
pub record Opening (s : Settings) (units : List (List ℕ)) : Type 0 where
  pub says : Says s units (superframe s units)
  pub bytes : All AreBytes units → AreBytes (superframe s units)
  pub reads : AreBytes (superframe s units) → ReadsAs s units (superframe s units)

abbrev pub OpeningWhatWasSealed : Type 0
OpeningWhatWasSealed = (s : Settings) (units : List (List ℕ)) → Fill s units → Opening s units

-- The calls of a writer, made with these units in their order and with a buffer that nothing else is written to: no `add` is refused, the
-- units that are in stay in the buffer, and `seal` is not refused and makes this block.
pub record CallsMake (units : List (List ℕ)) (begun : OpenWriter) (buffer block : List ℕ) : Type 0 where
  -- with the earlier units in, the next one is accepted
  pub accepted : (earlier : List (List ℕ)) (unit : List ℕ) (later : List (List ℕ)) → units ≡ earlier ++ (unit ∷ later)
      → (w : OpenWriter) (held : List ℕ) → AddsAll begun buffer earlier w held
      → (after : OpenWriter) (written : List ℕ) (answer : Result Unit Refusal) → Adds w after unit held written answer → answer ≡ Ok tt
  -- whatever units were added stand in the buffer
  pub kept : (earlier : List (List ℕ)) (w : OpenWriter) (held : List ℕ) → AddsAll begun buffer earlier w held
      → units_in w.starts w.added held ≡ earlier
  -- with all of them in, sealing is accepted, and makes the block
  pub sealed : (w : OpenWriter) (held : List ℕ) → AddsAll begun buffer units w held
      → (after : List ℕ) (answer : Result SealedWriter Refusal) → Seals w held after answer
      → (sealed : SealedWriter) × (answer ≡ Ok sealed) × (after ≡ block)

-- With units that fill the super frame the calls of a writer that begins, and is lent a buffer of a block's length, make the super frame of
-- the settings and of the units that were passed. It reads as these.
abbrev pub SealingWhatWasAdded : Type 0
SealingWhatWasAdded =
    (s : Settings) (units : List (List ℕ)) → Fill s units
    → (begun : OpenWriter) (buffer : List ℕ) → Begins s begun → length buffer ≡ 120 * s.size
    → CallsMake units begun buffer (superframe s units) × Opening s units

-- The size, the parameters and the units that a block holds make that block: neither building settings nor sealing is refused, in one call
-- or call by call, and every byte is the same.
pub record MakesAgain (size : ℕ) (block : List ℕ) (h : Header) : Type 0 where
  pub accepted : first_refusal (settings_complaints size h.parameters) ≡ None
  pub made : (s : Settings) → s.size ≡ size → s.parameters ≡ h.parameters
      → first_refusal (making_complaints s (units_in h.starts (unit_count h) block)) ≡ None
  pub same : (s : Settings) → s.size ≡ size → s.parameters ≡ h.parameters → superframe s (units_in h.starts (unit_count h) block) ≡ block
  pub by_calls : (s : Settings) → s.size ≡ size → s.parameters ≡ h.parameters
      → (begun : OpenWriter) (buffer : List ℕ) → Begins s begun → length buffer ≡ 120 * size
      → CallsMake (units_in h.starts (unit_count h) block) begun buffer block

-- Sealing what a flawless block held gives that block.
abbrev pub SealingWhatWasHeld : Type 0
SealingWhatWasHeld = (size : ℕ) (block : List ℕ) (h : Header) → AreBytes block → Flawless size block h → MakesAgain size block h
