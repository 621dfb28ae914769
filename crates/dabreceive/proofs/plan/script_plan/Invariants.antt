use Rattle.std.proofs.Common.{◌≡◌, ◌*◌, ◌++◌, map, drop, length}
use Rattle.sources.specs.Frames.{whole_frames}
use Rattle.dabreceive.specs.Lines.{calls_to_come}
use Rattle.dabreceive.specs.Plans.{question, first_questions, script_questions, frames_left}
use Rattle.dabreceive.proofs.plan.script_plan.Given as goal

abbrev pub invariant-loop-command : goal.invariant-loop-command
invariant-loop-command l =
    (map question l.script.calls.items ++ script_questions l.fn.size (drop l.command-index l.fn.commands) (frames_left l.script)
    ≡ first_questions l.fn.patience ++ script_questions l.fn.size l.fn.commands (whole_frames (24 * l.fn.size) l.fn.recording))
    × (l.script.size ≡ l.fn.size)
    × (calls_to_come l.lines ≡ length l.script.calls.items)
