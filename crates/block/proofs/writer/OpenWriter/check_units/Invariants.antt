use Rattle.std.proofs.Common.{map}
use Rattle.block.proofs.PlacingAll.{PlacedTo}
use Rattle.block.proofs.writer.OpenWriter.check_units.Given as goal

-- the units before have their places
abbrev pub invariant-loop-unit : goal.invariant-loop-unit
invariant-loop-unit l = PlacedTo l.fn.settings (map (λ unit. unit.now) l.units) l.unit-index l.writer
