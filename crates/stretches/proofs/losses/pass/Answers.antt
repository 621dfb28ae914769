-- The patience is set, and the frames are handed in, those before the cut first.
use Rattle.std.proofs.Common.{◌≡◌, ℕ, ◌-◌, ◌*◌, ◌/◌, ap, ◌∙◌, subst, subst₂, rules, length, Ok, arith}
use Rattle.sources.specs.Queues.{source_of_queue}
use Rattle.reception.specs.Receptions.{Reception, reception, new_receiver, patience_set}
use Rattle.reception.specs.Rules.{Rule}
use Rattle.stretches.specs.declared.witness.Witness.{Witness}
use Rattle.stretches.specs.steps.Feeding.{frames_from, Fed}
use Rattle.sources.proofs.Beginning.{empty_queue}
use Rattle.stretches.proofs.Losing.{report_told}
use Rattle.stretches.proofs.losses.pass.Goals as goal

pub returns : goal.returns
returns c =
    let places = c.deref_mut.result.now in
    let long : length places ≡ 768 * c.args.size = search rules in
    let begun = reception source_of_queue c.patience.new.self in
    let cut = reception source_of_queue c.feed.new.receiver in
    let after = reception source_of_queue c.feed-2.new.receiver in
    record {
      begun = begun;
      cut = cut;
      after = after;
      set =
          subst (λ (r : Reception). Rule r (patience_set c.args.patience (Ok tt)) begun)
          (c.new-receiver.ensures.made ∙ ap (new_receiver c.args.size) (c.new-queue.ensures.empty ∙ empty_queue c.args.size places c.requires.size.0 c.requires.size.1 long))
          c.in_ok-patience.ensures.rule;
      earlier =
          subst₂ (λ (n : ℕ) (w : Witness). Fed begun (frames_from c.args.size c.args.recording.now 0 n) w cut c.feed.new.witness)
          (let e : c.args.start - 0 ≡ c.args.start = omega arith in e) c.new-before.ensures c.feed.ensures;
      told = report_told c.report-cut.ensures;
      later =
          subst (λ (w : Witness). Fed cut (frames_from c.args.size c.args.recording.now c.args.start (length c.args.recording.now / (24 * c.args.size) - c.args.start)) w after c.feed-2.new.witness)
          c.new-behind.ensures c.feed-2.ensures;
    }
