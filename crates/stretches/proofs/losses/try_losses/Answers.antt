-- The run that was made is one of which the law speaks.
use Rattle.std.proofs.Common.{arith}
use Rattle.stretches.proofs.Losing.{loses_and_is_back}
use Rattle.stretches.proofs.losses.try_losses.Goals as goal

pub returns : goal.returns
returns c =
    let found = rw c.in-Some.is at c.in_ok-super_frames.ensures in
    let back = c.is_back.ensures.0 c.if-not-is_back.false in (
      c.saturating_sub-lost.ensures,
      loses_and_is_back c.args.size c.args.patience c.args.start c.args.wrong_bytes c.in-Some.super_frames c.args.recording.now c.in_ok-passage.passage c.in_ok-passage.ensures
          found.2 found.0 c.if-start-recording.false back.smooth_before back.smooth_behind back.locked back.amid
          (omega (arith, back.delivered, c.saturating_sub-lost.ensures, c.if-lost-super_frames.false)) back.below,
    )
