use Rattle.std.proofs.Common.{rules, ◌≡◌, ℕ, ◌*◌, length, ap, ◌∙◌}
use Rattle.sources.specs.Queues.{new_queue}
use Rattle.sources.proofs.Beginning.{empty_queue}
use Rattle.dabreceive.proofs.Summing.{sums_up}
use Rattle.dabreceive.proofs.receiving.make_calls.Goals as goal

pub returns : goal.returns
returns c =
    let size = c.args.size in
    let places = c.deref_mut.result.now in
    let long : length places ≡ 768 * size = search rules in
    sums_up size c.drive.ensures.driven.1 (search rules)
    (c.new-queue.ensures.empty ∙ ap (λ (n : ℕ). new_queue n places) c.number.ensures ∙ empty_queue size places (search rules) (search rules) long)
    (search rules)
