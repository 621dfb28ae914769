use Rattle.std.proofs.Common.{rules, arith}
use Rattle.std.proofs.lemmas.Grind.{common_steps}
use Rattle.dabreceive.specs.Plans.{line_questions, left_behind, frames_left}
use Rattle.dabreceive.proofs.Planning.{added_length}
use Rattle.dabreceive.proofs.plan.script_plan.Goals as goal

pub loop-command-preserved : goal.loop-command-preserved
loop-command-preserved c =
    let s = c.loop-command.script in
    let more = added_length s (line_questions s.size c.command-item.result (frames_left s)) (left_behind c.command-item.result (frames_left s)) c.add.new.self c.in_ok-add.ensures in (
      grind (arith, common_steps),
      search rules,
      omega (arith, more, c.len-before.ensures, c.len-in-loop-command.ensures, c.saturating_sub.ensures, c.in_ok-add-2.ensures, c.loop-command.invariant.2),
    )
