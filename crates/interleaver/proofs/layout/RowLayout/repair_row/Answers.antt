-- What the correction of the word that is read answered is told of the row.
use Rattle.std.proofs.Common.{Some, None, sym, subst, arith}
use Rattle.interleaver.specs.Rows.{row_of, RowRepaired}
use Rattle.interleaver.specs.steps.OneRow.{stored}
use Rattle.interleaver.proofs.Calls.{row_repaired, row_left, row_unchanged}
use Rattle.interleaver.proofs.layout.RowLayout.repair_row.Goals as goal

pub returns-in_err-changed-clause-repaired : goal.returns-in_err-changed-clause-repaired
returns-in_err-changed-clause-repaired c =
    let l = c.args.self.now in
    let row = row_of l.rows l.symbols c.args.block.now c.args.row in
    let w = c.correct in
    subst (RowRepaired l.checks row row) (sym c.from_residual.ensures)
    (row_left l.checks row (stored w.new.word)
    (row_repaired l.rows l.symbols l.checks c.args.row c.args.block.now c.gather.new.word w.new.word c.args.work.now w.new.work
    c.gather.ensures l.shape c.requires.work w.result None c.in_err-changed.ensures.value w.ensures.answer))

pub returns-then-changed-gt0-clause-repaired : goal.returns-then-changed-gt0-clause-repaired
returns-then-changed-gt0-clause-repaired c =
    let l = c.args.self.now in
    let row = row_of l.rows l.symbols c.args.block.now c.args.row in
    let w = c.correct in
    let changed = c.in_ok-changed.changed in
    subst (λ v. RowRepaired l.checks row v (Some changed)) (sym c.scatter.ensures.here)
    (row_repaired l.rows l.symbols l.checks c.args.row c.args.block.now c.gather.new.word w.new.word c.args.work.now w.new.work
    c.gather.ensures l.shape c.requires.work w.result (Some changed) c.in_ok-changed.ensures.value w.ensures.answer)

pub returns-else-changed-gt0-clause-repaired : goal.returns-else-changed-gt0-clause-repaired
returns-else-changed-gt0-clause-repaired c =
    let l = c.args.self.now in
    let row = row_of l.rows l.symbols c.args.block.now c.args.row in
    let w = c.correct in
    let changed = c.in_ok-changed.changed in
    row_unchanged l.checks row (stored w.new.word) changed (omega arith)
    (row_repaired l.rows l.symbols l.checks c.args.row c.args.block.now c.gather.new.word w.new.word c.args.work.now w.new.work
    c.gather.ensures l.shape c.requires.work w.result (Some changed) c.in_ok-changed.ensures.value w.ensures.answer)
