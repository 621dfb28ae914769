use Rattle.std.proofs.Common.{◌∙◌, arith}
use Rattle.codes.specs.steps.Elimination.{cells}
use Rattle.codes.proofs.Stages.{keeps_more, steps_more}
use Rattle.codes.proofs.elimination.Matrix.reduce.Goals as goal

pub loop-column-preserved : goal.loop-column-preserved
loop-column-preserved g c =
    let F = g.F.Field in
    let f = F.field in
    let l = g.met.F.Field.laws in
    let m = c.args.self.now.rows in
    let w = c.args.self.now.columns in
    let k = c.loop-column.column in
    let p = c.in-Some.pivot in
    let o = cells f F.mean w c.args.self.now.symbols.now in
    let a = cells f F.mean w c.loop-column.self.symbols.now in
    let b = cells f F.mean w c.swap_rows.new.self.symbols.now in
    let d = cells f F.mean w c.clear_below.new.self.symbols.now in
    let rows = c.loop-column.invariant.0 in
    let columns = c.loop-column.invariant.1 in
    let pivot = rw (rows, columns) at c.in-Some.ensures in
    let swapped = rw columns at c.swap_rows.ensures.swapped in
    let below = rw (c.swap_rows.ensures.shape.0 ∙ rows, c.swap_rows.ensures.shape.1 ∙ columns) at c.clear_below.ensures.below in (
      c.clear_below.ensures.shape.0 ∙ c.swap_rows.ensures.shape.0 ∙ rows,
      c.clear_below.ensures.shape.1 ∙ c.swap_rows.ensures.shape.1 ∙ columns,
      keeps_more l m w k p a b d (omega arith) (omega arith) pivot swapped below c.loop-column.invariant.3 o c.loop-column.invariant.2,
      steps_more l m w k p a b d (omega arith) (omega arith) pivot swapped below c.loop-column.invariant.3,
    )
