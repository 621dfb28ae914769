-- One row more is corrected, or stops the repair; where all are corrected, none is left.
use Rattle.std.proofs.Common.{◌≤◌, Some, refl, rules, arith}
use Rattle.gf.specs.Fields.{gf256}
use Rattle.codes.proofs.Shapes.{code_sizes}
use Rattle.interleaver.specs.Rows.{all_corrected}
use Rattle.interleaver.proofs.Calls.{zero_work}
use Rattle.interleaver.proofs.Progress.{repaired_none, repaired_more, repaired_all}
use Rattle.interleaver.proofs.Stopping.{stopped}
use Rattle.interleaver.proofs.layout.RowLayout.repair_clean.Goals as goal

pub loop-row-init : goal.loop-row-init
loop-row-init c =
    let l = c.args.self.now in
    record {
      repaired = repaired_none l.rows l.symbols l.checks c.args.block.now (all_corrected 0) (refl, (refl, refl));
      work = zero_work 512;
    }

pub loop-row-preserved : goal.loop-row-preserved
loop-row-preserved c =
    let l = c.args.self.now in
    let few : l.checks ≤ 16 = (code_sizes gf256 l.symbols l.checks l.shape).1 in
    let row = c.in-Some.ensures in
    record {
      repaired =
          repaired_more l.rows l.symbols l.checks c.loop-row.row c.args.block.now c.loop-row.block c.repair_row.new.block
          (all_corrected c.loop-row.changed) (Some c.in-Some.count) c.loop-row-test.true few c.loop-row.invariant.repaired row.only row.repaired;
      work = row.work;
    }

pub returns-in_default : goal.returns-in_default
returns-in_default c =
    let l = c.args.self.now in
    let few : l.checks ≤ 16 = (code_sizes gf256 l.symbols l.checks l.shape).1 in
    let row = c.in_default.ensures in (
      search rules,
      stopped l.rows l.symbols l.checks c.loop-row.row c.args.block.now c.loop-row.block c.repair_row.new.block c.loop-row.changed
          c.loop-row-test.true few c.loop-row.invariant.repaired row.only row.repaired,
    )

pub returns : goal.returns
returns c =
    let l = c.args.self.now in (
      search rules,
      repaired_all l.rows l.symbols l.checks c.loop-row.row c.args.block.now c.loop-row.block (all_corrected c.loop-row.changed)
          (omega arith) (omega arith) c.loop-row.invariant.repaired,
    )
