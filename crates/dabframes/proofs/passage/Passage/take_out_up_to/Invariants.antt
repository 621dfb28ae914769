use Rattle.std.proofs.Common.{◌≡◌, length}
use Rattle.dabframes.specs.steps.Passages.{TakesOut}
use Rattle.dabframes.proofs.passage.Passage.take_out_up_to.Given as goal

abbrev pub invariant-loop-taken : goal.invariant-loop-taken
invariant-loop-taken l = TakesOut (length l.initial.frame) l.initial.self l.self l.taken × (length l.frame ≡ length l.initial.frame)
