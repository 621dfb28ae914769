use Rattle.std.proofs.Common.{◌≡◌}
use Rattle.codes.specs.steps.Elimination.{cells, entries}
use Rattle.codes.specs.steps.Decoding.{Columns}
use Rattle.codes.proofs.error_values.fill_columns.Given as goal

-- the columns before are filled
abbrev pub invariant-loop-column : goal.invariant-loop-column
invariant-loop-column g l =
    let F = g.F.Field in
    let old = l.initial.matrix in
    (l.matrix.rows ≡ old.rows) × (l.matrix.columns ≡ old.columns)
    × Columns F.field old.rows (entries F.field F.mean l.points) l.column (cells F.field F.mean old.columns l.matrix.symbols.now)
