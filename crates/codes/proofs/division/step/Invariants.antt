use Rattle.std.proofs.Common.{◌≡◌, ◌++◌, map, take, drop}
use Rattle.codes.specs.steps.Dividing.{stepped}
use Rattle.codes.proofs.division.step.Given as goal

-- the places before j are written, those from j on are as they were
abbrev pub invariant-loop-j : goal.invariant-loop-j
invariant-loop-j g l =
    let F = g.F.Field in
    let old = map F.mean l.initial.rest in
    map F.mean l.rest ≡ take l.j (stepped F.field (map F.mean l.tail) old (F.mean l.symbol)) ++ drop l.j old
