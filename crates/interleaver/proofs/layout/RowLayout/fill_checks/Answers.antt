-- One row more is filled; where all are, the data are as they were.
use Rattle.std.proofs.Common.{ℕ, rules, arith, subst}
use Rattle.interleaver.proofs.Calls.{zero_work}
use Rattle.interleaver.proofs.Filling.{FilledTo, filled_none, filled_more, filled_all}
use Rattle.interleaver.proofs.layout.RowLayout.fill_checks.Goals as goal

pub loop-row-init : goal.loop-row-init
loop-row-init c =
    let l = c.args.self.now in
    record { filled = filled_none l.rows l.symbols l.checks c.args.block.now; work = zero_work 512 }

pub loop-row-preserved : goal.loop-row-preserved
loop-row-preserved c =
    let l = c.args.self.now in
    let w = c.fill_row in
    record {
      filled =
          filled_more l.rows l.symbols l.checks c.loop-row.row c.args.block.now c.loop-row.block w.new.block c.loop-row-test.true
          c.loop-row.invariant.filled w.ensures.only w.ensures.filled;
      work = w.ensures.work;
    }

pub returns : goal.returns
returns c =
    let l = c.args.self.now in
    let To = λ (done : ℕ). FilledTo l.rows l.symbols l.checks done c.args.block.now c.loop-row.block in
    let done = filled_all l.rows l.symbols l.checks c.args.block.now c.loop-row.block (subst To (omega arith) c.loop-row.invariant.filled) in
    search rules
