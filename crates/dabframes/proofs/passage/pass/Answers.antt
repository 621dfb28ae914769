use Rattle.std.proofs.Common.{ℕ, ◌*◌, ◌/◌, length, sym, ap, ◌∙◌}
use Rattle.dabframes.specs.declared.passage.Passage.{Passage}
use Rattle.dabframes.proofs.Passing.{all_accounted}
use Rattle.dabframes.proofs.passage.pass.Goals as goal

pub hand_in_all-requires-clause-accounted : goal.hand_in_all-requires-clause-accounted
hand_in_all-requires-clause-accounted c =
    let begun : Passage = record {
      recording = c.in_ok-new.field-0;
      rest = c.args.bytes;
      queue = c.new-2.result;
      waiting = c.new-3.result;
      tally = c.new-4.result;
    } in
    all_accounted c.number-2.result c.args.bytes.now begun c.in_ok-new.ensures.1 c.new-3.ensures.items (ap (λ t. t.came_out) c.new-4.ensures) (ap (λ t. t.lost) c.new-4.ensures)
    ∙ ap (λ (n : ℕ). length c.args.bytes.now / n) (ap (λ (n : ℕ). 24 * n) c.number-2.ensures ∙ sym c.frame_length-frame_length.ensures)
