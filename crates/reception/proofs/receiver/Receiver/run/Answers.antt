-- The calls are made one by one.
use Rattle.std.proofs.Common.{List, sym, subst}
use Rattle.std.proofs.lemmas.List.{take_more}
use Rattle.reception.specs.declared.calls.Call.{Call}
use Rattle.reception.specs.Receptions.{reception}
use Rattle.reception.specs.Driving.{Driven}
use Rattle.reception.proofs.Drives.{none_driven, driven_more, pieces_are_one_run, cut_anywhere, runs_are_one_run}
use Rattle.reception.proofs.receiver.Receiver.run.Goals as goal

pub loop-call-init : goal.loop-call-init
loop-call-init g c = none_driven g.L.Listener.hears (reception g.S.FrameSource.meaning c.args.self.now) c.args.buffer.now c.args.listener.now

pub loop-call-preserved : goal.loop-call-preserved
loop-call-preserved g c =
    subst (λ (cs : List Call). Driven g.L.Listener.hears (reception g.S.FrameSource.meaning c.args.self.now) cs c.args.buffer.now c.make.new.buffer c.args.listener.now c.make.new.listener (reception g.S.FrameSource.meaning c.make.new.self))
    (sym (take_more c.args.calls.now c.loop-call.call-index _ c.loop-call-test.true))
    (driven_more g.L.Listener.hears (reception g.S.FrameSource.meaning c.args.self.now) (reception g.S.FrameSource.meaning c.loop-call.self) (reception g.S.FrameSource.meaning c.make.new.self) _ _ c.args.buffer.now c.loop-call.buffer c.make.new.buffer c.args.listener.now c.loop-call.listener c.make.new.listener
    c.loop-call.invariant c.make.ensures)

pub returns-clause-pieces : goal.returns-clause-pieces
returns-clause-pieces g c = pieces_are_one_run g.L.Listener.hears

pub returns-clause-cut : goal.returns-clause-cut
returns-clause-cut g c = cut_anywhere

pub returns-clause-together : goal.returns-clause-together
returns-clause-together g c = runs_are_one_run
