use Rattle.std.proofs.Common.{◌≡◌, ℕ, ◌<◌, get_or}
use Rattle.block.specs.SuperFrames.{digits, packed}
use Rattle.block.proofs.packed_starts.pack.Given as goal

-- the bytes before are written
abbrev pub invariant-loop-k : goal.invariant-loop-k
invariant-loop-k l = (i : ℕ) → i < l.k → get_or l.bytes i 0 ≡ get_or (packed (digits l.numbers)) i 0
