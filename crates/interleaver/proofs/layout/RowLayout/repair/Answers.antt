-- One row more is repaired; where all are, the block is; and the theorems.
use Rattle.std.proofs.Common.{◌≤◌, Some, None, sym, subst, ◌+◌, rules, arith}
use Rattle.gf.specs.Fields.{gf256}
use Rattle.codes.proofs.Shapes.{code_sizes}
use Rattle.interleaver.proofs.Places.{one_row_and_column, rows_decide}
use Rattle.interleaver.proofs.Calls.{zero_work}
use Rattle.interleaver.proofs.Progress.{RepairedTo, repaired_none, repaired_more, repaired_all}
use Rattle.interleaver.proofs.Repaired.{repaired_somehow}
use Rattle.interleaver.proofs.Repairing.{repaired_once, few_wrong_corrected}
use Rattle.interleaver.proofs.layout.RowLayout.repair.Goals as goal
use Rattle.interleaver.proofs.layout.RowLayout.repair.Goals.{in-Some, in-None}

-- the theorems hold whatever is answered
pub returns-then-block-block_length : goal.returns-then-block-block_length
returns-then-block-block_length c =
    let l = c.args.self.now in
    record {
      answer = search rules;
      places = one_row_and_column l.rows l.symbols;
      rows = rows_decide l.rows l.symbols;
      once = repaired_once l.rows l.symbols l.checks l.shape;
      some = repaired_somehow l.rows l.symbols l.checks l.shape;
      few_wrong = few_wrong_corrected l.rows l.symbols l.checks l.shape;
    }

pub loop-row-init : goal.loop-row-init
loop-row-init c =
    let l = c.args.self.now in
    record {
      repaired = repaired_none l.rows l.symbols l.checks c.args.block.now c.default-repair.result c.default-repair.ensures;
      work = zero_work 512;
    }

pub loop-row-preserved : goal.loop-row-preserved
loop-row-preserved c =
    let l = c.args.self.now in
    let before = c.args.block.now in
    let next = c.repair_row.new.block in
    let so_far = c.loop-row.invariant.repaired in
    let few : l.checks ≤ 16 = (code_sizes gf256 l.symbols l.checks l.shape).1 in
    let more = repaired_more l.rows l.symbols l.checks c.loop-row.row before c.loop-row.block next c.loop-row.repair in
    let To = RepairedTo l.rows l.symbols l.checks (c.loop-row.row + 1) before next in
    record {
      repaired =
          elim c.match-repair_row.branch [
            | in-Some w ↦
                let row = w.in-Some.ensures in
                subst To (sym w.repair-is) (more (Some w.in-Some.changed) c.loop-row-test.true few so_far row.only row.repaired)
            | in-None w ↦
                let row = w.in-None.ensures in
                subst To (sym (rw w.or-repair.ensures at w.repair-is)) (more None c.loop-row-test.true few so_far row.only row.repaired)
          ];
      work = c.repair_row.ensures.work;
    }

pub returns : goal.returns
returns c =
    let l = c.args.self.now in
    let done =
    repaired_all l.rows l.symbols l.checks c.loop-row.row c.args.block.now c.loop-row.block c.loop-row.repair (omega arith) (omega arith)
    c.loop-row.invariant.repaired in
    record {
      answer = search rules;
      places = one_row_and_column l.rows l.symbols;
      rows = rows_decide l.rows l.symbols;
      once = repaired_once l.rows l.symbols l.checks l.shape;
      some = repaired_somehow l.rows l.symbols l.checks l.shape;
      few_wrong = few_wrong_corrected l.rows l.symbols l.checks l.shape;
    }
