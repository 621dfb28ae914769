use Rattle.std.proofs.Common.{map, take}
use Rattle.block.specs.Writing.{AddsAll}
use Rattle.block.proofs.making.make_super_frame.Given as goal

-- the units before were added by the calls so far
abbrev pub invariant-loop-unit : goal.invariant-loop-unit
invariant-loop-unit l = AddsAll l.initial.writer l.initial.block (take l.unit-index (map (λ unit. unit.now) l.units)) l.writer l.block
