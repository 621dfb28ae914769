use Rattle.std.proofs.Common.{◌≡◌, ◌-◌, ◌≤◌, length}
use Rattle.block.specs.Headers.{crowded}
use Rattle.block.proofs.packed_starts.first_crowded.Given as goal

-- what is left to search answers what the whole search does
abbrev pub invariant-loop-number : goal.invariant-loop-number
invariant-loop-number l =
    (l.numbers.end ≡ length l.starts) × (1 ≤ l.numbers.start) × (l.numbers.start ≤ l.numbers.end)
    × (crowded l.starts l.numbers.start (l.numbers.end - l.numbers.start) ≡ crowded l.starts 1 (length l.starts - 1))
