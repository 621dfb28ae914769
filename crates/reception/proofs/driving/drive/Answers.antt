-- The calls are run on a new receiver, and the laws hold of every run.
use Rattle.std.proofs.Common.{ap, subst}
use Rattle.reception.specs.Receptions.{Reception, reception}
use Rattle.reception.specs.Driving.{Driven}
use Rattle.reception.proofs.Drives.{cut_anywhere}
use Rattle.reception.proofs.Recovering.{back_after_bad_reception}
use Rattle.reception.proofs.HuntingLaw.{nothing_lost_while_hunting}
use Rattle.reception.proofs.Serving.{line_served}
use Rattle.reception.proofs.Answering.{one_answer}
use Rattle.reception.proofs.driving.drive.Goals as goal

pub returns : goal.returns
returns g c = record {
  driven = (
    reception g.S.FrameSource.meaning c.run.new.self,
    subst (λ (r : Reception). Driven g.L.Listener.hears r c.args.calls.now c.args.buffer.now c.run.new.buffer c.args.listener.now c.run.new.listener (reception g.S.FrameSource.meaning c.run.new.self))
        c.new-receiver.ensures.made c.run.ensures.driven,
    ap g.S.FrameSource.meaning c.end.ensures,
  );
  cut = cut_anywhere;
  back = back_after_bad_reception;
  nothing_lost = nothing_lost_while_hunting;
  served = line_served;
  one_answer = one_answer;
}
