use Rattle.std.proofs.Common.{◌≤◌, map, length, take}
use Rattle.codes.specs.steps.Decoding.{CorrectedPlaces}
use Rattle.codes.proofs.errors.correct_places.Given as goal

-- the errors before are off
abbrev pub invariant-loop-place : goal.invariant-loop-place
invariant-loop-place g l =
    let F = g.F.Field in
    let k = length l.yielded in
    (l.changed ≤ k) × CorrectedPlaces F.field F.mean (take k l.places) (take k (map F.mean l.values)) l.initial.word l.word l.changed
