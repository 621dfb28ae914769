-- The loop: the columns before are written, and no other row.
use Rattle.std.proofs.Common.{◌≡◌, ℕ, ◌<◌, ◌≢◌, get_or}
use Rattle.interleaver.specs.Rows.{place_of}
use Rattle.interleaver.specs.steps.OneRow.{stored}
use Rattle.interleaver.proofs.layout.RowLayout.scatter.Given as goal

abbrev pub invariant-loop-column : goal.invariant-loop-column
invariant-loop-column l =
    ((k : ℕ) → k < l.column → get_or l.block (place_of l.self.rows l.row k) 0 ≡ get_or (stored l.word) k 0)
    × ((other k : ℕ) → other < l.self.rows → (other ≢ l.row)
    → get_or l.block (place_of l.self.rows other k) 0 ≡ get_or l.initial.block (place_of l.self.rows other k) 0)
