use Rattle.std.proofs.Common.{◌≡◌, ℕ, ◌+◌, ◌-◌, ◌<◌, length}
use Rattle.codes.specs.steps.Elimination.{cells, entries, Others}
use Rattle.codes.proofs.locator.fill_row.Given as goal

-- the columns before are written, and no other row
abbrev pub invariant-loop-column : goal.invariant-loop-column
invariant-loop-column g l =
    let F = g.F.Field in
    let old = l.initial.matrix in
    let a = cells F.field F.mean (l.degree + 1) old.symbols.now in
    let b = cells F.field F.mean (l.degree + 1) l.matrix.symbols.now in
    (l.matrix.rows ≡ old.rows) × (l.matrix.columns ≡ old.columns)
    × ((c : ℕ) → c < length l.yielded → b l.row c ≡ entries F.field F.mean l.syndromes (l.row + (l.degree - c))) × Others (l.degree + 1) a l.row b
