use Rattle.std.proofs.Common.{◌∙◌, arith}
use Rattle.codes.proofs.Moves.{below_more}
use Rattle.codes.proofs.elimination.Matrix.clear_below.Goals as goal

pub loop-row-preserved : goal.loop-row-preserved
loop-row-preserved g c =
    let same = c.loop-row.invariant.1 in (
      c.clear_row.ensures.shape.0 ∙ c.loop-row.invariant.0,
      c.clear_row.ensures.shape.1 ∙ same,
      below_more g.F.Field.field c.args.self.now.columns c.args.pivot c.loop-row.row _ _ _ (omega arith) (omega arith) c.loop-row.invariant.2
          (rw same at c.clear_row.ensures.cleared) (rw same at c.clear_row.ensures.others),
    )
