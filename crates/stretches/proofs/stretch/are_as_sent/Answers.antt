-- It is so at one place more, or not at one.
use Rattle.std.proofs.Common.{arith, below_more, refl, sym, ◌∙◌}
use Rattle.std.proofs.lemmas.Bool.{false≢true}
use Rattle.stretches.specs.Instances.{AsSent}
use Rattle.stretches.proofs.stretch.are_as_sent.Goals as goal

pub loop-place-preserved : goal.loop-place-preserved
loop-place-preserved c =
    below_more (AsSent c.args.size c.args.start c.args.wrong_bytes c.args.recording.now) c.loop-place.place c.loop-place.invariant (c.is_as_sent.ensures.0 c.if-not-is_as_sent.false)

pub returns-then-not-is_as_sent : goal.returns-then-not-is_as_sent
returns-then-not-is_as_sent c = (
  λ is. absurd (false≢true is),
  λ all. sym c.if-not-is_as_sent.true ∙ c.is_as_sent.ensures.1 (all c.loop-place.place (omega arith)),
)

pub returns : goal.returns
returns c = (λ _. λ place there. c.loop-place.invariant place (omega arith), λ _. refl)
