use Rattle.std.proofs.Common.{ap}
use Rattle.reception.specs.Receptions.{reception}
use Rattle.reception.specs.steps.Holding.{Holding}
use Rattle.reception.proofs.Ruling.{same_receiver, restarts_with}
use Rattle.reception.proofs.receiver.Receiver.reset.Goals as goal

pub returns-clause-rule : goal.returns-clause-rule
returns-clause-rule g c = same_receiver (ap (reception g.S.FrameSource.meaning) c.self.view_is) (restarts_with _ _ (ap (λ (held : Holding). held.frames) c.clear.ensures))
