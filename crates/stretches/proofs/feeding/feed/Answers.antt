-- One frame more is handed in.
use Rattle.std.proofs.Common.{◌≡◌, ℕ, ◌+◌, ◌-◌, ◌*◌, List, [], ◌∷◌, ◌++◌, map, sym, ap, ◌∙◌, subst, arith}
use Rattle.std.proofs.lemmas.List.FromFn.{map-range_with_len_more}
use Rattle.std.specs.List.{range_with_len}
use Rattle.sources.specs.Frames.{frame_at}
use Rattle.reception.specs.Receptions.{reception, offer}
use Rattle.stretches.specs.steps.Feeding.{Fed}
use Rattle.stretches.proofs.HandedIn.{none_fed, fed-append, one_fed}
use Rattle.stretches.proofs.feeding.feed.Goals as goal

pub loop-place-init : goal.loop-place-init
loop-place-init g c =
    let r = reception g.S.FrameSource.meaning c.args.receiver.now in
    let w = c.args.witness.now in
    let frame = frame_at (24 * c.args.size) c.args.recording.now in
    subst (λ (n : ℕ). Fed r (map frame (range_with_len c.args.first n)) w r w)
    (let e : 0 ≡ c.args.first - c.args.first = omega arith in e) (none_fed r w)

pub loop-place-preserved : goal.loop-place-preserved
loop-place-preserved g c =
    let frame = frame_at (24 * c.args.size) c.args.recording.now in
    let first = c.args.first in
    let place = c.loop-place.place in
    let begun = reception g.S.FrameSource.meaning c.args.receiver.now in
    let before = reception g.S.FrameSource.meaning c.loop-place.receiver in
    let after = reception g.S.FrameSource.meaning c.run.new.self in
    let told = c.loop-place.witness in
    let later = c.run.new.listener in
    let more : map frame (range_with_len first (place + 1 - first)) ≡ map frame (range_with_len first (place - first)) ++ frame place ∷ [] =
    ap (λ (n : ℕ). map frame (range_with_len first n)) (let e : place + 1 - first ≡ place - first + 1 = omega arith in e)
    ∙ map-range_with_len_more frame first (place - first) place (omega arith) in
    subst (λ (frames : List (List ℕ)). Fed begun frames c.args.witness.now after later) (sym more)
    (fed-append begun before after _ _ c.args.witness.now told later c.loop-place.invariant
    (one_fed before after (frame place) _ _ c.loop-place.buffer c.run.new.buffer told later (λ b. ap offer c.frame_of-frame.ensures) c.run.ensures.driven))
