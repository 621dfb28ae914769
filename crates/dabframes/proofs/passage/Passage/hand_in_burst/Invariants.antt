use Rattle.std.proofs.Common.{◌≡◌, ◌+◌, length}
use Rattle.dabframes.specs.steps.Passages.{to_come, accounted, Steady}
use Rattle.dabframes.proofs.passage.Passage.hand_in_burst.Given as goal

abbrev pub invariant-loop : goal.invariant-loop
invariant-loop l =
    Steady (length l.initial.frame) l.self × (accounted l.self ≡ accounted l.initial.self) × (length l.frame ≡ length l.initial.frame)
    × (length (to_come l.self) + l.counter ≡ length (to_come l.initial.self))
