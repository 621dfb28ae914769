use Rattle.std.proofs.Common.{◌≡◌}
use Rattle.codes.specs.steps.Elimination.{cells, Keeps, Steps}
use Rattle.codes.proofs.elimination.Matrix.reduce.Given as goal

-- the columns before are done
abbrev pub invariant-loop-column : goal.invariant-loop-column
invariant-loop-column g l =
    let F = g.F.Field in
    let old = l.initial.self in
    let o = cells F.field F.mean old.columns old.symbols.now in
    let a = cells F.field F.mean old.columns l.self.symbols.now in
    (l.self.rows ≡ old.rows) × (l.self.columns ≡ old.columns)
    × Keeps F.field old.rows old.columns o a × Steps F.field old.rows l.column a
