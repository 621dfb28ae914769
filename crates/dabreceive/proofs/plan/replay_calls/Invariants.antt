use Rattle.std.proofs.Common.{◌≡◌, ◌*◌, ◌++◌, map}
use Rattle.dabreceive.specs.Plans.{question, first_questions, replay_questions}
use Rattle.dabreceive.proofs.plan.replay_calls.Given as goal

abbrev pub invariant-loop-frame : goal.invariant-loop-frame
invariant-loop-frame l =
    (map question l.calls.items ++ replay_questions l.fn.size l.frame-iterator.rest.now ≡ first_questions l.fn.patience ++ replay_questions l.fn.size l.fn.recording)
    × (l.frame-iterator.size ≡ 24 * l.fn.size)
