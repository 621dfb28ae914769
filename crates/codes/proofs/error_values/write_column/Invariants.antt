use Rattle.std.proofs.Common.{◌≡◌, ℕ, ◌<◌}
use Rattle.codes.specs.steps.Elimination.{cells, entries}
use Rattle.codes.specs.steps.Decoding.{Beside}
use Rattle.codes.proofs.error_values.write_column.Given as goal

-- the rows before are written, and no other column
abbrev pub invariant-loop-row : goal.invariant-loop-row
invariant-loop-row g l =
    let F = g.F.Field in
    let old = l.initial.matrix in
    let b = cells F.field F.mean old.columns l.matrix.symbols.now in
    (l.matrix.rows ≡ old.rows) × (l.matrix.columns ≡ old.columns)
    × ((i : ℕ) → i < l.row → b i l.column ≡ entries F.field F.mean l.symbols i)
    × Beside old.columns (cells F.field F.mean old.columns old.symbols.now) l.column b
