-- One unit more is good; or one is not.
use Rattle.std.proofs.Common.{◌≡◌, true, sym, ◌∙◌, below_more}
use Rattle.block.specs.Headers.{check_fits}
use Rattle.stretches.proofs.Judging.{found_good}
use Rattle.stretches.proofs.blocks.all_units_good.Goals as goal

pub loop-n-preserved : goal.loop-n-preserved
loop-n-preserved c =
    below_more (λ k. check_fits c.args.opened.now.header c.args.block.now k ≡ true) c.loop-n.n c.loop-n.invariant
    (found_good c.args.opened.now c.args.block.now c.loop-n.n c.unit.result c.unit.ensures (sym c.is_err.ensures.value ∙ c.if-is_err.false))
