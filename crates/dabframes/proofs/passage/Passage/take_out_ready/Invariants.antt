use Rattle.std.proofs.Common.{◌≡◌, length}
use Rattle.dabframes.specs.steps.Passages.{to_come, accounted, Steady}
use Rattle.dabframes.proofs.passage.Passage.take_out_ready.Given as goal

abbrev pub invariant-loop : goal.invariant-loop
invariant-loop l =
    Steady (length l.initial.frame) l.self × (accounted l.self ≡ accounted l.initial.self) × (length l.frame ≡ length l.initial.frame) × (to_come l.self ≡ to_come l.initial.self)
