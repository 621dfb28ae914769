-- The loop: it is so at every place before.
use Rattle.std.proofs.Common.{ℕ, ◌<◌}
use Rattle.stretches.specs.Instances.{AsSent}
use Rattle.stretches.proofs.stretch.are_as_sent.Given as goal

abbrev pub invariant-loop-place : goal.invariant-loop-place
invariant-loop-place l = (k : ℕ) → k < l.place → AsSent l.fn.size l.fn.start l.fn.wrong_bytes l.fn.recording k
