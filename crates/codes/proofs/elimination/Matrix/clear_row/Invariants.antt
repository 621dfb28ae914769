use Rattle.std.proofs.Common.{◌≡◌}
use Rattle.codes.specs.steps.Elimination.{cells, Added, Others}
use Rattle.codes.proofs.elimination.Matrix.clear_row.Given as goal

-- the multiple is added in the columns before, and the other rows are as they were
abbrev pub invariant-loop-column : goal.invariant-loop-column
invariant-loop-column g l =
    let F = g.F.Field in
    let old = l.initial.self in
    let a = cells F.field F.mean old.columns old.symbols.now in
    let b = cells F.field F.mean old.columns l.self.symbols.now in
    (l.self.rows ≡ old.rows) × (l.self.columns ≡ old.columns)
    × Added F.field old.columns l.column l.pivot a l.row (F.mean l.factor) b × Others old.columns a l.row b
