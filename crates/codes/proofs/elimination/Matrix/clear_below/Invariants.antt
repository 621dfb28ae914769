use Rattle.std.proofs.Common.{◌≡◌}
use Rattle.codes.specs.steps.Elimination.{cells, Below}
use Rattle.codes.proofs.elimination.Matrix.clear_below.Given as goal

-- the rows before are cleared
abbrev pub invariant-loop-row : goal.invariant-loop-row
invariant-loop-row g l =
    let F = g.F.Field in
    let old = l.initial.self in
    (l.self.rows ≡ old.rows) × (l.self.columns ≡ old.columns)
    × Below F.field old.columns l.row l.pivot (cells F.field F.mean old.columns old.symbols.now)
    (cells F.field F.mean old.columns l.self.symbols.now)
