use Rattle.std.proofs.Common.{◌≡◌, ◌++◌, length, take, drop}
use Rattle.gf.specs.Fields.{gf2}
use Rattle.codes.specs.Polynomials.{over}
use Rattle.block.specs.Checks.{byte_bits, meanings}
use Rattle.block.proofs.checks.add_byte.Given as goal

-- the places so far hold the sum, the others are as they were
abbrev pub invariant-loop-place : goal.invariant-loop-place
invariant-loop-place l =
    (length l.register ≡ 16)
    × (meanings l.register ≡ take l.place (over gf2 (meanings l.initial.register) (byte_bits l.byte)) ++ drop l.place (meanings l.initial.register))
