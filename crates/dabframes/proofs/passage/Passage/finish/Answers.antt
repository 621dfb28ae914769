-- All frames that waited come out, since there are no more than places, and then each is accounted for.
use Rattle.std.proofs.Common.{◌≡◌, ◌≤◌, [], length, deque_len, arith, inl, inr, ap, sym, ◌∙◌}
use Rattle.std.proofs.lemmas.Bool.{eq-eqb}
use Rattle.std.proofs.lemmas.List.{length-map}
use Rattle.sources.proofs.Frames.{more_frames}
use Rattle.dabframes.specs.steps.Passages.{held, to_come}
use Rattle.dabframes.proofs.passage.Passage.finish.Goals.{then-self-frame, else-self-frame}
use Rattle.dabframes.proofs.passage.Passage.finish.Goals as goal

pub returns : goal.returns
returns c =
    let before = c.requires.steady in
    let middle = c.take_out_up_to.new.self in
    let taken = c.in_ok-left_over.ensures.taken in
    let stays = c.finish.ensures.stays in
    let none_waits : length (held middle) ≡ 0 = elim (c.in_ok-left_over.ensures.all) [
      | inl all ↦ omega (arith, all, taken.held_is, before.places)
      | inr none ↦ ap length none
    ] in
    let none_to_come : to_come middle ≡ [] = taken.to_come_is ∙ c.requires.ended in
    record {
      counted = omega (arith, stays.0, stays.1, taken.accounted_is, none_waits, ap length none_to_come);
      left = omega (arith, c.finish.ensures.ended.0, stays.0, taken.accounted_is, taken.held_is, taken.lost, ap length taken.to_come_is);
      agree = stays.2 ∙ taken.steady.agree;
      complete = elim c.if-self-frame.branch [
        | then-self-frame w ↦
            c.finish.ensures.ended.1 ∙ w.complete-is ∙ w.is_empty-complete.ensures
            ∙ eq-eqb (deque_len middle.waiting) 0 (middle.waiting.ok.0 ∙ sym (length-map middle.waiting.items (λ frame. frame.now)) ∙ none_waits)
        | else-self-frame w ↦
            let whole : length c.args.frame.now ≤ length middle.rest.now = omega (arith, w.if-self-frame.false, c.take_out_up_to.auto.frame) in
            let more = more_frames (length c.args.frame.now) middle.rest.now before.some whole in
            absurd (omega (arith, ap length (sym none_to_come ∙ taken.steady.rest_is ∙ more)))
      ];
    }
