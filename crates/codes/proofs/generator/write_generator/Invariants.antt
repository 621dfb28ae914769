use Rattle.codes.specs.Codewords.{generator}
use Rattle.codes.specs.steps.Elimination.{entries}
use Rattle.codes.specs.steps.Filling.{Holds}
use Rattle.codes.proofs.generator.write_generator.Given as goal

-- the product of the factors before
abbrev pub invariant-loop-degree : goal.invariant-loop-degree
invariant-loop-degree g l =
    let F = g.F.Field in
    Holds F.field (generator F.field l.degree) (entries F.field F.mean l.polynomial)
