use borrow.Author.Count.{below_more}
use Rattle.std.proofs.Common.{ap, ◌∙◌, arith}
use Rattle.gf.specs.Theory.{pow}
use Rattle.codes.specs.steps.Elimination.{cells, entries}
use Rattle.codes.specs.steps.Decoding.{Powers}
use Rattle.codes.proofs.Cells.{place_read}
use Rattle.codes.proofs.error_values.fill_columns.Goals as goal

pub loop-column-preserved : goal.loop-column-preserved
loop-column-preserved g c =
    let F = g.F.Field in
    let f = F.field in
    let points = c.args.points.now in
    let m = c.args.matrix.now in
    let now = cells f F.mean m.columns c.fill_column.new.matrix.symbols.now in
    let same = c.loop-column.invariant.1 in
    let powers = rw c.loop-column.invariant.0 at (rw same at c.fill_column.ensures.powers) in
    let others = rw same at c.fill_column.ensures.others in (
      c.fill_column.ensures.shape.0 ∙ c.loop-column.invariant.0,
      c.fill_column.ensures.shape.1 ∙ same,
      below_more (λ k. Powers f m.rows (entries f F.mean points k) k now) c.loop-column.column
          (λ k b i d. others i k (omega (arith, c.requires)) (λ e. omega arith) ∙ c.loop-column.invariant.2 k b i d)
          (λ i d. powers i d
          ∙ ap (λ x. pow f x i) (place_read f F.mean points c.loop-column.column c.index-points-column.result c.loop-column-test.true c.index-points-column.is)),
    )
