-- What the steps of reading a block answer, one by one. The promises of the public calls are in Headers.antt and States.antt.
use Rattle.std.specs.Prelude.{◌≡◌, ℕ, ◌+◌, ◌-◌, ◌*◌, ◌≤◌, true, cond, List, [], drop, Some, None, Ok, Err, Option, Result, slice_index}
use Rattle.gf.specs.declared.refusal.Refusal.{Refusal}
use Rattle.gf.specs.Refusals.{Performs}
use Rattle.block.specs.declared.fault.HeaderFault.{HeaderFault}
use Rattle.block.specs.declared.fault.HeaderFault.TheVariants as faults
use Rattle.block.specs.declared.parameters.Parameters.{Parameters}
use Rattle.block.specs.declared.parameters.Layout.{Layout}
use Rattle.block.specs.declared.header.Header.{Header}
use Rattle.interleaver.specs.declared.repair.Repair.{Repair}
use Rattle.interleaver.specs.Rows.{RepairedOrStopped}
use Rattle.block.specs.BlockRows.{RowsRepaired}
use Rattle.block.specs.Layouts.{layout, read}
use Rattle.block.specs.Headers.{starts, crowded, fire_fits, fills, of_block}

-- what every layout keeps: two to six units, a header of five to eleven bytes, and four bits behind the packed starts where they fill
-- its last byte
pub record Fits (l : Layout) : Type 0 where
  pub some : 2 ≤ l.units
  pub few : l.units ≤ 6
  pub long : 5 ≤ l.header_length
  pub short : l.header_length ≤ 11
  pub ends : l.aligned ≡ true → 24 + 12 * (l.units - 1) + 4 ≡ 8 * l.header_length

-- the header, unless a start is crowded
abbrev pub spaced : ℕ → Parameters → List ℕ → Option ℕ → Result Header HeaderFault
spaced size p places (Some n) = Err (faults.Starts n)
spaced size p places None = Ok (record { size = size; parameters = p; starts = places })

-- the header by what is packed behind the parameters
abbrev pub laid : ℕ → List ℕ → Layout → Parameters → Result Header HeaderFault
laid size packed l p =
    cond (fills l packed) (spaced size p (starts l size packed) (crowded (starts l size packed) 1 l.units))
    (Err (faults.Alignment (l.header_length - 1)))

-- the header by its parameters and what is packed behind them
abbrev pub parted : ℕ → List ℕ → Result Parameters HeaderFault → Result Header HeaderFault
parted size packed (Err fault) = Err fault
parted size packed (Ok p) = laid size packed (layout p.dac p.sbr) p

-- the header of a block, or its first fault
abbrev pub opened : ℕ → List ℕ → Result Header HeaderFault
opened size block = cond (fire_fits block) (parted size (drop 3 block) (read (slice_index block 2))) (Err faults.Fire)

-- the rows of a block are repaired; or the first refusal is answered, and the buffer is as it was
abbrev pub RepairsRows : ℕ → List ℕ → List ℕ → Result Repair Refusal → Type 0
RepairsRows size before after answer = Performs (of_block size before []) (RowsRepaired size before after) (after ≡ before) answer

-- every row is corrected, with so many bytes changed, or the repair stopped; or the first refusal is answered, and the buffer is as it was
abbrev pub RepairsCleanRows : ℕ → List ℕ → List ℕ → Result (Option ℕ) Refusal → Type 0
RepairsCleanRows size before after answer =
    Performs (of_block size before []) (RepairedOrStopped size 120 10 before after) (after ≡ before) answer
