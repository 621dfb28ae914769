use Rattle.std.proofs.Common.{◌+◌}
use Rattle.codes.specs.Codewords.{generator}
use Rattle.codes.specs.steps.Elimination.{entries}
use Rattle.codes.specs.steps.Filling.{FactorTaken}
use Rattle.codes.proofs.generator.take_factor.Given as goal

-- the places before the index hold the product, the others are as they were
abbrev pub invariant-loop-coefficient : goal.invariant-loop-coefficient
invariant-loop-coefficient g l =
    let F = g.F.Field in
    let f = F.field in
    FactorTaken f l.coefficient-index (generator f l.degree) (generator f (l.degree + 1)) (F.mean l.before) (entries f F.mean l.coefficient-items)
