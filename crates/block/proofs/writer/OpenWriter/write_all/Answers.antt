use Rattle.std.proofs.Common.{ap, ◌∙◌, subst, arith}
use Rattle.interleaver.specs.Rows.{ChecksFilled}
use Rattle.block.specs.steps.Writing.{with_unit_checks}
use Rattle.block.proofs.Sealing.{with_fire_word, sealed_is}
use Rattle.block.proofs.writer.OpenWriter.write_all.Goals as goal

pub returns-clause-block : goal.returns-clause-block
returns-clause-block c =
    let w = c.args.self.now in
    let before = c.write_fire_word.new.block in
    let after = c.fill_rows.new.block in
    let written = c.write_fire_word.ensures ∙ ap with_fire_word (c.write_unit_checks.ensures ∙ ap (with_unit_checks w) c.write_header.ensures) in
    sealed_is w c.args.block.now c.requires before after written (λ i. omega (arith, c.type_inv.block i))
    (subst (λ size. ChecksFilled size 120 10 before after) c.size.ensures c.fill_rows.ensures)
