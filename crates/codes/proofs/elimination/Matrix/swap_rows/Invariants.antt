use Rattle.std.proofs.Common.{◌≡◌}
use Rattle.codes.specs.steps.Elimination.{cells, Swapped}
use Rattle.codes.proofs.elimination.Matrix.swap_rows.Given as goal

-- the rows have changed places in the columns before
abbrev pub invariant-loop-column : goal.invariant-loop-column
invariant-loop-column g l =
    let F = g.F.Field in
    let old = l.initial.self in
    (l.self.rows ≡ old.rows) × (l.self.columns ≡ old.columns)
    × Swapped old.columns l.column (cells F.field F.mean old.columns old.symbols.now) l.first l.second
    (cells F.field F.mean old.columns l.self.symbols.now)
