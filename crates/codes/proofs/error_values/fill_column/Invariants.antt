use Rattle.std.proofs.Common.{◌≡◌}
use Rattle.gf.specs.Theory.{pow}
use Rattle.codes.specs.steps.Elimination.{cells}
use Rattle.codes.specs.steps.Decoding.{Powers, Beside}
use Rattle.codes.proofs.error_values.fill_column.Given as goal

-- the rows before hold their powers, and no other column is written
abbrev pub invariant-loop-row : goal.invariant-loop-row
invariant-loop-row g l =
    let F = g.F.Field in
    let old = l.initial.matrix in
    let b = cells F.field F.mean old.columns l.matrix.symbols.now in
    (l.matrix.rows ≡ old.rows) × (l.matrix.columns ≡ old.columns) × (F.mean l.power ≡ pow F.field (F.mean l.point) l.row)
    × Powers F.field l.row (F.mean l.point) l.column b × Beside old.columns (cells F.field F.mean old.columns old.symbols.now) l.column b
