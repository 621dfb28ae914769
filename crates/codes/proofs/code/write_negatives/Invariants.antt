use Rattle.std.proofs.Common.{◌≡◌, ◌++◌, map, take, drop}
use Rattle.codes.specs.Polynomials.{negs}
use Rattle.codes.proofs.code.write_negatives.Given as goal

-- the places before the index have changed their sign, the others not yet
abbrev pub invariant-loop-place : goal.invariant-loop-place
invariant-loop-place g l =
    let F = g.F.Field in
    let old = map F.mean l.initial.places in
    map F.mean l.places ≡ take l.place-index (negs F.field old) ++ drop l.place-index old
