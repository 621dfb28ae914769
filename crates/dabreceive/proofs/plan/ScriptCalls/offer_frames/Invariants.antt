use Rattle.dabreceive.specs.Plans.{frames_left}
use Rattle.dabreceive.proofs.Planning.{AddsFrames}
use Rattle.dabreceive.proofs.plan.ScriptCalls.offer_frames.Given as goal

abbrev pub invariant-loop : goal.invariant-loop
invariant-loop l = AddsFrames l.initial.self (frames_left l.initial.self) l.counter l.self
