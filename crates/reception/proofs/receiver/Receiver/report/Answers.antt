use Rattle.std.proofs.Common.{ap, subst}
use Rattle.reception.specs.declared.answers.Report.{Report}
use Rattle.reception.specs.Receptions.{Reception, reception, reported}
use Rattle.reception.specs.Rules.{Rule}
use Rattle.reception.proofs.Ruling.{reports_with}
use Rattle.reception.proofs.receiver.Receiver.report.Goals as goal

pub returns : goal.returns
returns g c =
    let told : Report = record { mode = c.self.inside.mode; held = c.count.result; misses = c.self.inside.misses; patience = c.self.inside.patience } in
    subst (λ (r : Reception). Rule r (reported told) r) (ap (reception g.S.FrameSource.meaning) c.self.view_is) (reports_with _ _ c.count.ensures)
