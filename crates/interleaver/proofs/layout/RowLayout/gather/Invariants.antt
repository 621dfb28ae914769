-- The loop: the columns before are read.
use Rattle.std.proofs.Common.{◌≡◌, ℕ, ◌<◌, get_or}
use Rattle.interleaver.specs.Rows.{place_of}
use Rattle.interleaver.specs.steps.OneRow.{stored}
use Rattle.interleaver.proofs.layout.RowLayout.gather.Given as goal

abbrev pub invariant-loop-column : goal.invariant-loop-column
invariant-loop-column l =
    (k : ℕ) → k < l.column → get_or (stored l.word) k 0 ≡ get_or l.block (place_of l.self.rows l.row k) 0
