use Rattle.std.proofs.Common.{refl, ap, ◌∙◌}
use Rattle.gf.specs.Bits.{bits, zeros, equal}
use Rattle.gf.specs.Fields.{gf2}
use Rattle.codes.specs.Division.{remainder_of}
use Rattle.block.specs.Checks.{fire_generator, binary}
use Rattle.block.proofs.Dividing.{covered-zeros}
use Rattle.block.proofs.checks.fire_word.Goals as goal

pub invariant_of-remainder : goal.invariant_of-remainder
unfolding bits equal
invariant_of-remainder c = record { admits = refl }

pub returns : goal.returns
unfolding bits zeros
returns c = c.word_of.ensures ∙ ap (binary 0) (c.remainder.ensures ∙ ap (λ w. remainder_of gf2 w fire_generator) (covered-zeros c.args.bytes.now))
