-- The loop: the checks of the units before are right.
use Rattle.std.proofs.Common.{◌≡◌, ℕ, ◌<◌, true}
use Rattle.block.specs.Headers.{check_fits}
use Rattle.stretches.proofs.blocks.all_units_good.Given as goal

abbrev pub invariant-loop-n : goal.invariant-loop-n
invariant-loop-n l = (k : ℕ) → k < l.n → check_fits l.fn.opened.header l.fn.block k ≡ true
