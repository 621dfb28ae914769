-- The word was corrected, and the receiver was driven by a pull for each whole frame.
use Rattle.std.proofs.Common.{◌∙◌}
use Rattle.stretches.proofs.Pulling.{whole_run}
use Rattle.stretches.proofs.receiving.receive.Goals as goal

pub returns : goal.returns
returns g c = (
  c.correct_and_drive-corrected.ensures.corrects,
  whole_run c.args.size c.args.recording.now c.correct_and_drive-corrected.ensures.driven.1 c.in_ok-source.ensures.0 c.in_ok-source.ensures.1
      (c.deref.ensures.value ∙ c.in_ok-calls.ensures.items_if_clones_equal (λ call same. same)) (c.deref_mut.ensures.len ∙ c.in_ok-buffer.ensures.len),
)
