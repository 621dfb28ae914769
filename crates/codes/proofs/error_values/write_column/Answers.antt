use borrow.Author.Count.{below_more}
use Rattle.std.proofs.Common.{◌≡◌, ◌∙◌, arith}
use Rattle.codes.specs.steps.Elimination.{cells, entries}
use Rattle.codes.proofs.Cells.{place_read}
use Rattle.codes.proofs.error_values.write_column.Goals as goal

pub loop-row-preserved : goal.loop-row-preserved
loop-row-preserved g c =
    let F = g.F.Field in
    let f = F.field in
    let symbols = c.args.symbols.now in
    let m = c.args.matrix.now in
    let now = cells f F.mean m.columns c.put.new.self.symbols.now in
    let same = c.loop-row.invariant.1 in
    let written = rw same at c.put.ensures.written in (
      c.put.ensures.shape.0 ∙ c.loop-row.invariant.0,
      c.put.ensures.shape.1 ∙ same,
      below_more (λ i. now i c.args.column ≡ entries f F.mean symbols i) c.loop-row.row
          (λ i b. written.rows i c.args.column c.requires.0 (λ e. omega arith) ∙ c.loop-row.invariant.2 i b)
          (written.here ∙ place_read f F.mean symbols c.loop-row.row c.index-symbols-row.result c.loop-row-test.true c.index-symbols-row.is),
      λ r k b d. written.columns r k b d ∙ c.loop-row.invariant.3 r k b d,
    )
