-- The loop: the calls before were run.
use Rattle.std.proofs.Common.{take}
use Rattle.reception.specs.Receptions.{reception}
use Rattle.reception.specs.Driving.{Driven}
use Rattle.reception.proofs.receiver.Receiver.run.Given as goal

abbrev pub invariant-loop-call : goal.invariant-loop-call
invariant-loop-call g l =
    Driven g.L.Listener.hears (reception g.S.FrameSource.meaning l.fn.self) (take l.call-index l.calls) l.fn.buffer l.buffer l.fn.listener l.listener (reception g.S.FrameSource.meaning l.self)
