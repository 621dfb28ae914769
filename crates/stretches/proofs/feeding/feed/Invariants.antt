-- The loop: the frames before were handed in.
use Rattle.std.proofs.Common.{◌-◌, ◌*◌, map}
use Rattle.std.specs.List.{range_with_len}
use Rattle.sources.specs.Frames.{frame_at}
use Rattle.reception.specs.Receptions.{reception}
use Rattle.stretches.specs.steps.Feeding.{Fed}
use Rattle.stretches.proofs.feeding.feed.Given as goal

abbrev pub invariant-loop-place : goal.invariant-loop-place
invariant-loop-place g l =
    Fed (reception g.S.FrameSource.meaning l.fn.receiver) (map (frame_at (24 * l.fn.size) l.fn.recording) (range_with_len l.fn.first (l.place - l.fn.first))) l.fn.witness
    (reception g.S.FrameSource.meaning l.receiver) l.witness
