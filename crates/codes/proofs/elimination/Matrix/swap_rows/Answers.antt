use Rattle.std.proofs.Common.{arith}
use Rattle.codes.proofs.Cells.{swapped_more}
use Rattle.codes.proofs.elimination.Matrix.swap_rows.Goals as goal

pub loop-column-preserved : goal.loop-column-preserved
loop-column-preserved g c =
    let F = g.F.Field in
    let w = c.args.self.now.columns in
    let same = c.loop-column.invariant.1 in
    let upper = rw same at c.place-upper.ensures.value in
    let lower = rw same at c.place-lower.ensures.value in (
      c.loop-column.invariant.0,
      same,
      swapped_more F.field F.mean w c.loop-column.column c.args.first c.args.second c.place-upper.result c.place-lower.result _ c.loop-column.self.symbols.now c.swap.new.self
          upper lower (omega (arith, same, c.loop-column-test.true)) c.place-upper.ensures.within c.place-lower.ensures.within c.swap.ensures.len c.swap.ensures.by_index c.loop-column.invariant.2,
    )
