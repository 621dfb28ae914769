use Rattle.std.proofs.Common.{◌≡◌, ◌++◌, map, take, drop}
use Rattle.codes.proofs.syndromes.add_last.Given as goal

-- to the places before the index the symbol is added, to the others not yet
abbrev pub invariant-loop-syndrome : goal.invariant-loop-syndrome
invariant-loop-syndrome g l =
    let F = g.F.Field in
    let old = map F.mean l.initial.syndromes in
    map F.mean l.syndromes ≡ take l.syndrome-index (map (λ value. F.field.add value (F.mean l.symbol)) old) ++ drop l.syndrome-index old
