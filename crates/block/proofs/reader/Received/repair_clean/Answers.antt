-- Where the repair stopped, a row is left, and the block is not clean.
use Rattle.std.proofs.Common.{ℕ, List, refl, rules, arith}
use Rattle.interleaver.proofs.Stopping.{some_left}
use Rattle.block.specs.BlockRows.{RowsStopped}
use Rattle.block.specs.Laws.{Clean}
use Rattle.block.proofs.reader.Received.repair_clean.Goals as goal

not_clean : (size : ℕ) (before after : List ℕ) → RowsStopped size before after → Clean size before → ⊥
not_clean size before after stopped clean =
    omega (arith, clean.none_left, some_left size 120 10 before after clean.repaired clean.repair refl stopped clean.rows)

pub returns-in-Ok-None : goal.returns-in-Ok-None
returns-in-Ok-None c =
    let stopped = (rw c.in-Ok-None.field-0-is at c.in-Ok-None.ensures).1 in
    (search rules, (not_clean c.args.self.size c.args.block.now c.repair_clean_rows.new.block stopped, stopped))
