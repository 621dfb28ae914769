use Rattle.std.proofs.Common.{◌≡◌, ℕ, ◌≤◌}
use Rattle.codes.specs.steps.Elimination.{entries}
use Rattle.codes.specs.steps.Decoding.{Scaled}
use Rattle.codes.proofs.error_values.normalize.Given as goal

-- the entries before are multiplied, the others are as they were
abbrev pub invariant-loop-entry : goal.invariant-loop-entry
invariant-loop-entry g l =
    let F = g.F.Field in
    let old = entries F.field F.mean l.initial.entry-items in
    let now = entries F.field F.mean l.entry-items in
    Scaled F.field (F.mean l.factor) l.entry-index old now × ((j : ℕ) → l.entry-index ≤ j → now j ≡ old j)
