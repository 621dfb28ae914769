use Rattle.std.proofs.Common.{◌≡◌, ◌-◌, ◌≤◌, ◌++◌, map, length, drop}
use Rattle.codes.specs.Division.{divided}
use Rattle.codes.proofs.division.take_in.Given as goal

-- what is left to divide comes to what was there at the start
abbrev pub invariant-loop-symbol : goal.invariant-loop-symbol
invariant-loop-symbol g l =
    let F = g.F.Field in
    let tail = map F.mean l.tail in
    (l.symbol-index ≤ length l.message)
    × (divided F.field tail (length l.message - l.symbol-index) (map F.mean l.rest ++ map F.mean (drop l.symbol-index l.message))
    ≡ divided F.field tail (length l.message) (map F.mean l.initial.rest ++ map F.mean l.message))
