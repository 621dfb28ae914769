-- The block that was read is what repairing the received one gives.
use Rattle.std.proofs.Common.{ℕ, ◌∙◌, subst}
use Rattle.reception.specs.steps.Calls.{Reads}
use Rattle.reception.proofs.Judging.{repair_of}
use Rattle.reception.proofs.blocks.open_block.Goals as goal

pub returns : goal.returns
returns c bytes =
    let repair = c.in_ok-repaired.repair in
    let block = c.repair.new.block in
    subst (λ (size : ℕ). Reads size repair block c.read_repaired.result) (c.in_ok-repaired.ensures.1 ∙ c.in_ok-new.ensures.1) c.read_repaired.ensures
    c.args.block.now
    (repair_of c.in_ok-new.field-0.size c.args.size c.args.block.now block repair c.in_ok-new.ensures.1 c.requires.long bytes c.in_ok-repaired.ensures.2)
