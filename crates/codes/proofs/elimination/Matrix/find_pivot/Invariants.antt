use Rattle.std.proofs.Common.{◌≡◌, ℕ, ◌<◌, ◌≤◌}
use Rattle.codes.specs.steps.Elimination.{cells}
use Rattle.codes.proofs.elimination.Matrix.find_pivot.Given as goal

-- the rows before are zero in the column
abbrev pub invariant-loop-row : goal.invariant-loop-row
invariant-loop-row g l =
    let F = g.F.Field in
    (l.rows.end ≡ l.self.rows) × (l.column ≤ l.rows.start)
    × ((row : ℕ) → l.column ≤ row → row < l.rows.start → cells F.field F.mean l.self.columns l.self.symbols.now row l.column ≡ F.field.zero)
