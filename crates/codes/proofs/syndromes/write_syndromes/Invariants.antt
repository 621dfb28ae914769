use Rattle.std.proofs.Common.{map, length, take}
use Rattle.codes.specs.steps.Elimination.{entries}
use Rattle.codes.proofs.Taking.{Raised}
use Rattle.codes.proofs.syndromes.write_syndromes.Given as goal

-- the syndromes of the part of the word before, each on by its power
abbrev pub invariant-loop-symbol : goal.invariant-loop-symbol
invariant-loop-symbol g l =
    let F = g.F.Field in
    Raised F.field (length l.initial.syndromes) (map F.mean (take l.symbol-index l.others)) (entries F.field F.mean l.syndromes)
