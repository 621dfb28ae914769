use Rattle.std.proofs.Common.{◌≡◌, ◌++◌, map, length, take, drop}
use Rattle.codes.specs.Polynomials.{zeros}
use Rattle.codes.proofs.division.clear.Given as goal

-- the places before the index are zero, the others as they were
abbrev pub invariant-loop-symbol : goal.invariant-loop-symbol
invariant-loop-symbol g l =
    let F = g.F.Field in
    map F.mean l.symbols
    ≡ take l.symbol-index (zeros F.field (length l.initial.symbols)) ++ drop l.symbol-index (map F.mean l.initial.symbols)
