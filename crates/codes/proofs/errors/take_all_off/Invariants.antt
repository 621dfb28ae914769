use Rattle.std.proofs.Common.{map, length, take}
use Rattle.codes.specs.steps.Elimination.{entries}
use Rattle.codes.specs.steps.Decoding.{Rest}
use Rattle.codes.proofs.errors.take_all_off.Given as goal

-- the errors before are off the syndromes
abbrev pub invariant-loop-point : goal.invariant-loop-point
invariant-loop-point g l =
    let F = g.F.Field in
    let k = length l.yielded in
    Rest F.field (length l.initial.syndromes) (take k (map F.mean l.values)) (take k (map F.mean l.points))
    (entries F.field F.mean l.initial.syndromes) (entries F.field F.mean l.syndromes)
