use Rattle.std.proofs.Common.{ap}
use Rattle.reception.specs.Receptions.{reception}
use Rattle.reception.specs.Rules.{passes_on}
use Rattle.reception.proofs.Ruling.{same_receiver}
use Rattle.reception.proofs.receiver.Receiver.offer.Goals as goal

pub returns-clause-rule : goal.returns-clause-rule
returns-clause-rule g c = same_receiver (ap (reception g.S.FrameSource.meaning) c.self.view_is) (passes_on c.offer.ensures.offered)
