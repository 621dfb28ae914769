-- What five frames put together are: repaired, legible, clean, or a written super frame that was received with few wrong bytes.
use Rattle.std.specs.Prelude.{◌≡◌, ℕ, ◌*◌, ◌<◌, ◌≤◌, List, map, length, cond, Some, None, Ok, Err, Option, nat_lt}
use Rattle.std.specs.List.{range_with_len}
use Rattle.gf.specs.declared.refusal.Refusal.{Refusal}
use Rattle.interleaver.specs.declared.repair.Repair.{Repair}
use Rattle.interleaver.specs.Rows.{row_of, wrong, AreBytes}
use Rattle.block.specs.declared.header.Header.{Header}
use Rattle.block.specs.BlockRows.{RowsRepaired}
use Rattle.block.specs.Headers.{header, unit_count, check_fits}
use Rattle.block.specs.Laws.{Legible, Clean, Flawless}
use Rattle.reception.specs.declared.answers.UnitState.{UnitState}
use Rattle.reception.specs.declared.answers.UnitState.TheVariants.{Good, Bad}
use Rattle.reception.specs.declared.answers.Delivery.{Delivery}

-- The block is what repairing the received one gives: each row corrected, or left as it was.
pub record RepairOf (size : ℕ) (received block : List ℕ) (repair : Repair) : Type 0 where
  pub long : length received ≡ 120 * size
  pub bytes : AreBytes block
  pub rows : RowsRepaired size received block repair

-- whether the check of unit n is right, if there is such a unit
abbrev pub state_of_unit : Header → List ℕ → ℕ → Option UnitState
state_of_unit h block n = cond (nat_lt n (unit_count h)) (Some (cond (check_fits h block n) Good Bad)) None

-- the state of each unit, then none up to six
abbrev pub states_of_units : Header → List ℕ → List (Option UnitState)
states_of_units h block = map (state_of_unit h block) (range_with_len 0 6)

-- The received block is repaired and its header read, and this is what came of it.
pub record Delivers (size : ℕ) (received : List ℕ) (d : Delivery) (block : List ℕ) : Type 0 where
  pub repaired : RepairOf size received block d.repair
  pub header_is : header size block ≡ Ok d.header
  pub units_are : d.units ≡ states_of_units d.header block

-- The received block is repaired, and its header is refused.
pub record Misread (size : ℕ) (received : List ℕ) (refusal : Refusal) : Type 0 where
  pub block : List ℕ
  pub repair : Repair
  pub repaired : RepairOf size received block repair
  pub refused : header size block ≡ Err refusal

-- Legible: repaired, its header is right, whatever it says.
abbrev pub IsLegible : ℕ → List ℕ → Type 0
IsLegible size received = (h : Header) × Legible size received h

-- Clean and legible: no row is left, and then the header is right.
abbrev pub IsCleanAndLegible : ℕ → List ℕ → Type 0
IsCleanAndLegible size received = Clean size received × IsLegible size received

-- A super frame as it was written: its block, and what its header says.
pub record SuperFrame : Type 0 where
  pub block : List ℕ
  pub header : Header

-- Each row of the received block differs in at most five bytes from the row of the written one.
abbrev pub FewWrong : ℕ → List ℕ → List ℕ → Type 0
FewWrong size received written = (row : ℕ) → row < size → wrong (row_of size 120 received row) (row_of size 120 written row) ≤ 5

-- The written super frame came as this block, with at most five wrong bytes in each row. The first five say only that both are blocks of
-- bytes of this size.
pub record Carries (size : ℕ) (received : List ℕ) (written : SuperFrame) : Type 0 where
  pub in_range : (1 ≤ size) × (size ≤ 24)
  pub received_long : length received ≡ 120 * size
  pub received_bytes : AreBytes received
  pub written_long : length written.block ≡ 120 * size
  pub written_bytes : AreBytes written.block
  pub flawless : Flawless size written.block written.header
  pub few_wrong : FewWrong size received written.block
