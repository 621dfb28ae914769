-- The block that was read is what repairing the received one gives, with no row left.
use Rattle.std.proofs.Common.{ℕ, ◌∙◌, subst}
use Rattle.reception.specs.Blocks.{RepairOf}
use Rattle.reception.specs.steps.Calls.{Reads}
use Rattle.reception.proofs.Judging.{repair_of, read_clean}
use Rattle.reception.proofs.blocks.open_clean_block.Goals as goal

pub returns : goal.returns
returns c bytes =
    let received = c.args.block.now in
    let block = c.repair_clean.new.block in
    let repair = c.in_ok-repaired.repair in
    let done = (rw c.in_ok-repaired.was at c.in-Ok-repair_clean.ensures).1 in
    let r : RepairOf c.args.size received block repair =
    repair_of c.in-Ok.received.size c.args.size received block repair c.in-Ok.ensures.1 c.requires.long bytes done.1 in
    read_clean c.args.size received block repair c.read_repaired.result c.ok.result r done.2
    (subst (λ (size : ℕ). Reads size repair block c.read_repaired.result) (done.0 ∙ c.in-Ok.ensures.1) c.read_repaired.ensures received r)
    c.ok.ensures.value
