use Rattle.std.proofs.Common.{Err, sym, ap, ◌∙◌, subst}
use Rattle.std.proofs.lemmas.Result.{err_from_is_err_and}
use Rattle.reception.specs.Receptions.{reception, patience_set}
use Rattle.reception.specs.Rules.{Rule, sets_patience, keeps_patience}
use Rattle.reception.proofs.Ruling.{same_receiver}
use Rattle.reception.proofs.receiver.Receiver.patience.Goals as goal

pub returns-in_err-check_patience-clause-rule : goal.returns-in_err-check_patience-clause-rule
returns-in_err-check_patience-clause-rule g c =
    let p = err_from_is_err_and c.from_residual.result c.from_residual.ensures.1 in
    subst (λ answer. Rule (reception g.S.FrameSource.meaning c.args.self.now) (patience_set c.args.patience answer) (reception g.S.FrameSource.meaning c.args.self.now))
    (ap Err (sym p.2) ∙ sym p.1) (keeps_patience c.in_err-check_patience.ensures)

pub returns-clause-rule : goal.returns-clause-rule
returns-clause-rule g c = same_receiver (ap (reception g.S.FrameSource.meaning) c.self.view_is) (sets_patience c.in_ok-check_patience.ensures.0)
