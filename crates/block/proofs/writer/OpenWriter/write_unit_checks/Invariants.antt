use Rattle.std.proofs.Common.{◌≡◌, ◌++◌, length, get_or, drop}
use Rattle.block.proofs.UnitChecks.{checked_to}
use Rattle.block.proofs.writer.OpenWriter.write_unit_checks.Given as goal

-- the units before stand there with their checks, and nothing else is written
abbrev pub invariant-loop-n : goal.invariant-loop-n
invariant-loop-n l = record {
  long : length l.block ≡ length l.initial.block;
  checked : l.block ≡ checked_to l.initial.block l.self.starts l.n ++ drop (get_or l.self.starts l.n 0) l.initial.block;
}
