-- The loop: the units before have their states.
use Rattle.std.proofs.Common.{◌≡◌, ℕ, ◌<◌, length, get_or, None}
use Rattle.reception.specs.Blocks.{state_of_unit}
use Rattle.reception.proofs.blocks.unit_states.Given as goal

abbrev pub invariant-loop-n : goal.invariant-loop-n
invariant-loop-n l = (length l.states ≡ 6) × ((k : ℕ) → k < l.n → get_or l.states k None ≡ state_of_unit l.opened.header l.block k)
