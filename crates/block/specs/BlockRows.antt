-- The rows of a super frame's block: as many as the size says, of 120 bytes each, of which the last ten are checks.
use Rattle.std.specs.Prelude.{ℕ, List}
use Rattle.interleaver.specs.declared.repair.Repair.{Repair}
use Rattle.interleaver.specs.Rows.{BlockRepaired, RepairStopped, AllCodewords}

-- Each row is corrected, or left as it was.
abbrev pub RowsRepaired : ℕ → List ℕ → List ℕ → Repair → Type 0
RowsRepaired size before after repair = BlockRepaired size 120 10 before after repair

-- The repair stopped at the first row that no codeword is near enough to.
abbrev pub RowsStopped : ℕ → List ℕ → List ℕ → Type 0
RowsStopped size before after = RepairStopped size 120 10 before after

-- Every row is a codeword.
abbrev pub RowsRight : ℕ → List ℕ → Type 0
RowsRight size block = AllCodewords size 120 10 block
