-- What a pull did keeps the rules.
use Rattle.std.proofs.Common.{◌≡◌, ℕ, ◌+◌, ◌*◌, ◌<◌, ◌≤◌, List, [], ◌∷◌, drop, length, Ok, Err, refl, sym, ap, ◌∙◌, subst, arith}
use lib.ListN.{length-append}
use Rattle.std.specs.List.{concat}
use Rattle.std.proofs.lemmas.Result.{err_from_is_err_and}
use Rattle.sources.specs.declared.source.Next.TheVariants.{Frame}
use Rattle.reception.specs.declared.mode.Mode.TheVariants.{Hunting, Locked}
use Rattle.reception.specs.Receptions.{Reception, reception, pulled}
use Rattle.reception.specs.Blocks.{Delivers, Misread, IsCleanAndLegible}
use Rattle.reception.specs.steps.Holding.{Holding}
use Rattle.reception.specs.Rules.{Rule, Ready, Fifth, received, pull_refused, nothing_waits, gathers, finds, passes_by, follows, misses_one, loses_lock}
use Rattle.reception.specs.steps.Calls.{PullFits}
use Rattle.reception.proofs.Ruling.{same_receiver, same_buffer, Took, took, took_length, none_waits, unchanged, block_long, four_left, taken_to}
use Rattle.reception.proofs.receiver.Receiver.pull.Given.{Over}
use Rattle.reception.proofs.receiver.Receiver.pull.Goals.{In-Frame}
use Rattle.reception.proofs.receiver.Receiver.pull.Goals as goal

module _ (g : Over) (c : In-Frame g) where
  -- the receiver before
  abbrev seen : Reception
  seen = record {
    source = g.S.FrameSource.meaning c.self.inside.source;
    size = c.self.inside.size;
    mode = c.self.inside.mode;
    held = c.self.inside.held.frames;
    misses = c.self.inside.misses;
    patience = c.self.inside.patience;
  }

  ready : Ready seen c.args.buffer.now
  ready = subst (λ (r : Reception). Ready r c.args.buffer.now) (sym (ap (reception g.S.FrameSource.meaning) c.self.view_is)) c.in_ok-check_pull.ensures.0

  fits : PullFits seen c.args.buffer.now
  fits = subst (λ (r : Reception). PullFits r c.args.buffer.now) (sym (ap (reception g.S.FrameSource.meaning) c.self.view_is)) c.in_ok-check_pull.ensures.1

  answered : c.take_next.result ≡ Ok Frame
  answered = c.in_ok-take_next.was ∙ ap Ok c.in-Frame.is

  taken : Took seen (g.S.FrameSource.meaning c.take_next.new.source) c.take_next.new.self.frames
  taken = took seen c.self.inside.held (g.S.FrameSource.meaning c.take_next.new.source) c.take_next.new.self c.take_next.result c.take_next.ensures.taken answered refl

  -- one more is held than before, and that were four at most
  counted : length c.take_next.new.self.frames ≡ length seen.held + 1
  counted = ap length taken.held_is ∙ length-append seen.held (taken.frame ∷ [])

  frame_length : c.take_next.new.self.frame_length ≡ 24 * c.self.inside.size
  frame_length =
      took_length (g.S.FrameSource.meaning c.self.inside.source) (g.S.FrameSource.meaning c.take_next.new.source) c.self.inside.held c.take_next.new.self c.take_next.result
      c.take_next.ensures.taken answered ∙ c.self.invariant.1 fits.in_range.0 fits.in_range.1

  -- where there are not fewer than five
  module _ (many : 5 ≤ length c.take_next.new.self.frames) where
    five : length c.take_next.new.self.frames ≡ 5
    five = omega (arith, many, counted, c.self.invariant.0)

    fifth : Fifth seen
    fifth = sym counted ∙ five

    block_fits : (bytes : List ℕ) → length bytes ≡ length c.take_next.new.self.frames * c.take_next.new.self.frame_length
        → (length bytes ≡ 120 * c.self.inside.size) × (length c.args.buffer.now ≡ 120 * c.self.inside.size)
    block_fits bytes long =
        (block_long (length bytes) (length c.take_next.new.self.frames) c.take_next.new.self.frame_length c.self.inside.size long five frame_length, fits.buffer_long)

  -- the frames put together are what was received
  block : (bytes : List ℕ) → bytes ≡ concat c.take_next.new.self.frames → bytes ≡ received seen taken.frame
  block bytes are = are ∙ ap concat taken.held_is

pub returns-in_err-check_pull-clause-rule : goal.returns-in_err-check_pull-clause-rule
returns-in_err-check_pull-clause-rule g c =
    let p = err_from_is_err_and c.from_residual.result c.from_residual.ensures.1 in
    subst (λ answer. Rule (reception g.S.FrameSource.meaning c.args.self.now) (pulled c.args.buffer.now answer c.args.buffer.now) (reception g.S.FrameSource.meaning c.args.self.now))
    (ap Err (sym p.2) ∙ sym p.1) (pull_refused c.in_err-check_pull.ensures)

pub returns-in_default-clause-rule : goal.returns-in_default-clause-rule
returns-in_default-clause-rule g c =
    let none = none_waits (g.S.FrameSource.meaning c.self.inside.source) (g.S.FrameSource.meaning c.take_next.new.source) c.self.inside.held
    c.take_next.new.self c.take_next.result c.take_next.ensures.taken (c.in_ok-take_next.was ∙ ap Ok c.in_default.is) in
    let ready = subst (λ (r : Reception). Ready r c.args.buffer.now) (sym (ap (reception g.S.FrameSource.meaning) c.self.view_is)) c.in_ok-check_pull.ensures.0 in
    same_receiver (ap (reception g.S.FrameSource.meaning) c.self.view_is) (unchanged _ c.take_next.new.self.frames none.1 (ap (λ (h : Holding). h.frames) none.2) (nothing_waits ready none.0))

pub deliver_clean_block-requires-clause-long : goal.deliver_clean_block-requires-clause-long
deliver_clean_block-requires-clause-long g c =
    let k = (goal.at.deliver_clean_block-requires-clause-long g c).In-Frame in
    let many = subst (λ (n : ℕ). 5 ≤ n) c.count-held.ensures c.if-held-lt-FRAMES.false in
    block_fits g k many c.bytes.result.now c.bytes.ensures.length

pub deliver_block-requires-clause-long : goal.deliver_block-requires-clause-long
deliver_block-requires-clause-long g c =
    let k = (goal.at.deliver_block-requires-clause-long g c).In-Frame in
    let many = subst (λ (n : ℕ). 5 ≤ n) c.count-held.ensures c.if-held-lt-FRAMES.false in
    block_fits g k many c.bytes-in-Locked-default.result.now c.bytes-in-Locked-default.ensures.length

pub invariant_of-self-else-self : goal.invariant_of-self-else-self
invariant_of-self-else-self g c =
    let k = (goal.at.invariant_of-self-else-self g c).In-Frame in
    let many = subst (λ (n : ℕ). 5 ≤ n) c.count-held.ensures c.if-held-lt-FRAMES.false in
    let dropped = c.drop_oldest-else-self.ensures in (
      four_left _ _ (ap (λ (h : Holding). h.frames) dropped) (five g k many),
      (λ some few. ap (λ (h : Holding). h.frame_length) dropped ∙ frame_length g k),
      omega arith,
      c.self.invariant.3,
      c.self.invariant.4,
    )

pub returns-then-held-lt-FRAMES-clause-rule : goal.returns-then-held-lt-FRAMES-clause-rule
returns-then-held-lt-FRAMES-clause-rule g c =
    let k = (goal.at.returns-then-held-lt-FRAMES-clause-rule g c).In-Frame in
    let t = taken g k in
    let fewer = subst (λ (n : ℕ). n < 5) c.count-held.ensures c.if-held-lt-FRAMES.true in
    same_receiver (ap (reception g.S.FrameSource.meaning) c.self.view_is)
    (taken_to c.self.inside.mode c.self.inside.mode _ c.take_next.new.self.frames c.self.inside.misses _ t.source_is refl t.held_is
    (gathers (ready g k) t.in_front (subst (λ (n : ℕ). n < 5) (counted g k) fewer)))

pub returns-in-Some-clause-rule : goal.returns-in-Some-clause-rule
returns-in-Some-clause-rule g c =
    let k = (goal.at.returns-in-Some-clause-rule g c).In-Frame in
    let t = taken g k in
    let many = subst (λ (n : ℕ). 5 ≤ n) c.count-held.ensures c.if-held-lt-FRAMES.false in
    same_receiver (ap (reception g.S.FrameSource.meaning) c.self.view_is)
    (taken_to Locked Locked [] c.clear.new.self.frames 0 _ t.source_is refl (ap (λ (h : Holding). h.frames) c.clear.ensures)
    (finds (ready g k) t.in_front (fifth g k many) c.in-Hunting-default.is-0
    (subst (λ (b : List ℕ). Delivers c.self.inside.size b c.in-Some.delivery c.deliver_clean_block.new.buffer) (block g k _ c.bytes.ensures.bytes) c.in-Some.ensures.0) c.in-Some.ensures.1))

pub returns-in-None-clause-rule : goal.returns-in-None-clause-rule
returns-in-None-clause-rule g c =
    let k = (goal.at.returns-in-None-clause-rule g c).In-Frame in
    let t = taken g k in
    let many = subst (λ (n : ℕ). 5 ≤ n) c.count-held.ensures c.if-held-lt-FRAMES.false in
    same_receiver (ap (reception g.S.FrameSource.meaning) c.self.view_is)
    (same_buffer c.args.buffer.now c.deliver_clean_block.new.buffer c.in-None.ensures.1
    (taken_to Hunting c.self.inside.mode _ c.drop_oldest.new.self.frames c.self.inside.misses _ t.source_is c.in-Hunting-default.is-0
    (ap (λ (h : Holding). h.frames) c.drop_oldest.ensures ∙ ap (drop 1) t.held_is)
    (passes_by (ready g k) t.in_front (fifth g k many) c.in-Hunting-default.is-0
    (subst (λ (b : List ℕ). IsCleanAndLegible c.self.inside.size b → ⊥) (block g k _ c.bytes.ensures.bytes) c.in-None.ensures.0))))

pub returns-in-Ok-clause-rule : goal.returns-in-Ok-clause-rule
returns-in-Ok-clause-rule g c =
    let k = (goal.at.returns-in-Ok-clause-rule g c).In-Frame in
    let t = taken g k in
    let many = subst (λ (n : ℕ). 5 ≤ n) c.count-held.ensures c.if-held-lt-FRAMES.false in
    same_receiver (ap (reception g.S.FrameSource.meaning) c.self.view_is)
    (taken_to Locked c.self.inside.mode [] c.clear-in-Ok.new.self.frames 0 _ t.source_is c.in-Locked-default.is-0 (ap (λ (h : Holding). h.frames) c.clear-in-Ok.ensures)
    (follows (ready g k) t.in_front (fifth g k many) c.in-Locked-default.is-0
    (subst (λ (b : List ℕ). Delivers c.self.inside.size b c.in-Ok.delivery c.deliver_block.new.buffer) (block g k _ c.bytes-in-Locked-default.ensures.bytes) c.in-Ok.ensures)))

pub returns-then-self-clause-rule : goal.returns-then-self-clause-rule
returns-then-self-clause-rule g c =
    let k = (goal.at.returns-then-self-clause-rule g c).In-Frame in
    let t = taken g k in
    let many = subst (λ (n : ℕ). 5 ≤ n) c.count-held.ensures c.if-held-lt-FRAMES.false in
    same_receiver (ap (reception g.S.FrameSource.meaning) c.self.view_is)
    (same_buffer c.args.buffer.now c.deliver_block.new.buffer c.in-Err.ensures.1
    (taken_to Locked c.self.inside.mode [] c.clear-then-self.new.self.frames (c.self.inside.misses + 1) _ t.source_is c.in-Locked-default.is-0
    (ap (λ (h : Holding). h.frames) c.clear-then-self.ensures)
    (misses_one (ready g k) t.in_front (fifth g k many) c.in-Locked-default.is-0
    (subst (λ (b : List ℕ). Misread c.self.inside.size b c.in-Err.refusal) (block g k _ c.bytes-in-Locked-default.ensures.bytes) c.in-Err.ensures.0) c.if-self.true)))

pub returns-else-self-clause-rule : goal.returns-else-self-clause-rule
returns-else-self-clause-rule g c =
    let k = (goal.at.returns-else-self-clause-rule g c).In-Frame in
    let t = taken g k in
    let many = subst (λ (n : ℕ). 5 ≤ n) c.count-held.ensures c.if-held-lt-FRAMES.false in
    same_receiver (ap (reception g.S.FrameSource.meaning) c.self.view_is)
    (same_buffer c.args.buffer.now c.deliver_block.new.buffer c.in-Err.ensures.1
    (taken_to Hunting Hunting _ c.drop_oldest-else-self.new.self.frames 0 _ t.source_is refl
    (ap (λ (h : Holding). h.frames) c.drop_oldest-else-self.ensures ∙ ap (drop 1) t.held_is)
    (loses_lock (ready g k) t.in_front (fifth g k many) c.in-Locked-default.is-0
    (subst (λ (b : List ℕ). Misread c.self.inside.size b c.in-Err.refusal) (block g k _ c.bytes-in-Locked-default.ensures.bytes) c.in-Err.ensures.0) c.if-self.false)))
