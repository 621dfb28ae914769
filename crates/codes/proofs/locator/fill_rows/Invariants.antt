use Rattle.std.proofs.Common.{◌≡◌, ◌+◌}
use Rattle.codes.specs.steps.Elimination.{cells, entries}
use Rattle.codes.specs.steps.Decoding.{Recurring}
use Rattle.codes.proofs.locator.fill_rows.Given as goal

-- the rows before are filled
abbrev pub invariant-loop-row : goal.invariant-loop-row
invariant-loop-row g l =
    let F = g.F.Field in
    let old = l.initial.matrix in
    (l.matrix.rows ≡ old.rows) × (l.matrix.columns ≡ old.columns)
    × Recurring F.field old.rows (entries F.field F.mean l.syndromes) l.row (cells F.field F.mean (old.rows + 1) l.matrix.symbols.now)
