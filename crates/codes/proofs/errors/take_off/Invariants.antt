use Rattle.std.proofs.Common.{◌≡◌, ℕ, ◌<◌, ◌≤◌}
use Rattle.gf.specs.Theory.{pow}
use Rattle.codes.specs.steps.Elimination.{entries}
use Rattle.codes.proofs.errors.take_off.Given as goal

-- the error is off the syndromes before, the others are as they were
abbrev pub invariant-loop-syndrome : goal.invariant-loop-syndrome
invariant-loop-syndrome g l =
    let F = g.F.Field in
    let f = F.field in
    let old = entries f F.mean l.initial.syndromes in
    let now = entries f F.mean l.syndromes in
    (F.mean l.term ≡ f.mul (F.mean l.initial.term) (pow f (F.mean l.point) l.syndrome-index))
    × ((j : ℕ) → j < l.syndrome-index → now j ≡ f.add (old j) (f.neg (f.mul (F.mean l.initial.term) (pow f (F.mean l.point) j))))
    × ((j : ℕ) → l.syndrome-index ≤ j → now j ≡ old j)
