-- Where no super frame begins, five frames that reach into the stretch are as sent exactly where they are refused.
use Rattle.std.proofs.Common.{subst, sym, ◌∙◌}
use Rattle.std.proofs.lemmas.Bool.{false≢true}
use Rattle.stretches.specs.Instances.{BeginsAt}
use Rattle.reception.specs.Blocks.{IsLegible}
use Rattle.stretches.proofs.stretch.is_as_sent.Goals as goal

pub returns-else-place-start : goal.returns-else-place-start
returns-else-place-start c =
    let none : BeginsAt c.args.start c.args.place → ⊥ = λ b. false≢true (sym c.if-begins_at.false ∙ c.begins_at.ensures.1 b) in
    let five = c.five_from-five.ensures.five in (
      λ is. record {
        begins = λ b. absurd (none b);
        between = λ _ _ legible. c.is_refused.ensures.0 is (subst (IsLegible c.args.size) (sym five) legible);
      },
      λ sent. c.is_refused.ensures.1 (λ legible. sent.between none c.if-place-start.false (subst (IsLegible c.args.size) five legible)),
    )
