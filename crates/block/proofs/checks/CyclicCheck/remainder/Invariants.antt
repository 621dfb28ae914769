use Rattle.std.proofs.Common.{◌≡◌, take}
use Rattle.gf.specs.Fields.{gf2}
use Rattle.codes.specs.Division.{remainder_of}
use Rattle.block.specs.Checks.{covered, meanings}
use Rattle.block.proofs.checks.CyclicCheck.remainder.Given as goal

-- the register holds the remainder of what came so far
abbrev pub invariant-loop-byte : goal.invariant-loop-byte
invariant-loop-byte l =
    meanings l.register ≡ remainder_of gf2 (covered (meanings l.initial.register) (take l.byte-index l.bytes)) (meanings l.self.generator)
