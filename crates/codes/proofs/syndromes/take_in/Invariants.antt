use Rattle.codes.specs.steps.Elimination.{entries}
use Rattle.codes.specs.steps.Syndromes.{Taken}
use Rattle.codes.proofs.syndromes.take_in.Given as goal

-- the places before have taken the symbol in
abbrev pub invariant-loop-i : goal.invariant-loop-i
invariant-loop-i g l =
    let F = g.F.Field in
    Taken F.field l.i (F.mean l.symbol) (entries F.field F.mean l.initial.syndromes) (entries F.field F.mean l.syndromes)
