-- What pulls do, as many as frames wait: each takes one, and none disturbs.
use Rattle.std.proofs.Common.{◌≡◌, ℕ, zero, suc, ◌+◌, ◌*◌, ◌/◌, ◌≤◌, true, false, cond, ◌&&◌, leb, le-leb, leb-true, eqb, eq-eqb, List, [], ◌∷◌, ◌++◌, length, replicate, drop, None, sym, refl, ap, subst, ◌∙◌, take_all, length-append, length-drop, arith}
use Rattle.std.proofs.lemmas.Bool.{false≢true, and_from, and_parts}
use Rattle.std.proofs.lemmas.List.FromFn.{length-map-range_with_len}
use Rattle.gf.specs.declared.refusal.Refusal.TheVariants.{Size, Buffer, FrameLength}
use Rattle.gf.specs.Refusals.{first_refusal, of_size}
use Rattle.sources.specs.Sources.{Source}
use Rattle.sources.specs.Frames.{frame_at}
use Rattle.sources.specs.Recordings.{recording_source}
use Rattle.reception.specs.declared.calls.Call.{Call}
use Rattle.reception.specs.declared.calls.Call.TheVariants.{Pull}
use Rattle.reception.specs.declared.calls.Outcome.{Outcome}
use Rattle.reception.specs.declared.answers.Delivery.{Delivery}
use Rattle.reception.specs.Receptions.{Reception, new_receiver, Event, pull, asked_by}
use Rattle.reception.specs.Rules.{Ready, Rule, pull_refused, nothing_waits, gathers, finds, passes_by, follows, misses_one, loses_lock, passes_on, restarts, sets_patience, keeps_patience, reports}
use Rattle.reception.specs.Runs.{Run, ends, goes_on, takes, number_taken, frame_taken, accepted_by, disturbs}
use Rattle.reception.specs.Recovery.{Undisturbed}
use Rattle.reception.specs.Driving.{left_by, Answered, Driven}
use Rattle.reception.specs.Blocks.{Delivers}
use Rattle.reception.proofs.NotRefused.{passed}
use Rattle.reception.proofs.Lists.{same_head, same_tail}
use Rattle.reception.proofs.Serving.{line_served}
use Rattle.reception.proofs.Steps.{rule_size, rule_line, rule_number}
use Rattle.stretches.specs.Instances.{receiver_over, WholeRun}
use Rattle.stretches.specs.steps.Feeding.{AllCalm}
use Rattle.stretches.proofs.Judging.{none_applies}

-- a pull with a buffer of the right length is not refused
ready : (r : Reception) (buffer : List ℕ) → (1 ≤ r.size) × (r.size ≤ 24) → length buffer ≡ 120 * r.size → r.source.frame_length ≡ 24 * r.size → Ready r buffer
ready r buffer in_range long frames =
    none_applies (leb 1 r.size && leb r.size 24) (eqb (length buffer) (120 * r.size)) (eqb r.source.frame_length (24 * r.size)) Size Buffer FrameLength
    (and_from (leb 1 r.size) _ (le-leb 1 r.size in_range.0) (le-leb r.size 24 in_range.1)) (eq-eqb _ _ long) (eq-eqb _ _ frames)

-- What a pull with this buffer leaves.
record Leaves (r : Reception) (buffer : List ℕ) (e : Event) (after : Reception) : Type 0 where
  frames : after.source.frame_length ≡ r.source.frame_length
  none_accepted : accepted_by e ≡ []
  calm : disturbs e ≡ false
  left_long : length (left_by e buffer) ≡ length buffer

same_buffer : {lent buffer : List ℕ} → pull lent ≡ pull buffer → lent ≡ buffer
same_buffer same = cc

left_length : (lent left buffer : List ℕ) → lent ≡ buffer → length left ≡ length lent → length (left ++ drop (length lent) buffer) ≡ length buffer
left_length lent left buffer same long =
    omega (arith, length-append left (drop (length lent) buffer), length-drop (length lent) buffer, long, ap length same)

-- what is left where the buffer stays as it is
stays : (lent buffer : List ℕ) → pull lent ≡ pull buffer → length (lent ++ drop (length lent) buffer) ≡ length buffer
stays lent buffer same = left_length lent lent buffer (same_buffer same) refl

-- and where a block is written over it
delivers : {size : ℕ} {received block : List ℕ} {d : Delivery} (lent buffer : List ℕ) → pull lent ≡ pull buffer → length buffer ≡ 120 * size
    → Delivers size received d block → length (block ++ drop (length lent) buffer) ≡ length buffer
delivers {block = block} lent buffer same long delivered =
    let e = same_buffer same in
    left_length lent block buffer e (delivered.repaired.rows.long ∙ delivered.repaired.long ∙ sym long ∙ sym (ap length e))

leaves : {r after : Reception} {e : Event} {buffer : List ℕ} → Rule r e after → asked_by e ≡ pull buffer → length buffer ≡ 120 * r.size
    → Leaves r buffer e after
leaves {buffer = buffer} (pull_refused {buffer = lent} _) same long =
    record { frames = refl; none_accepted = refl; calm = refl; left_long = stays lent buffer same }
leaves {buffer = buffer} (nothing_waits {buffer = lent} _ _) same long =
    record { frames = refl; none_accepted = refl; calm = refl; left_long = stays lent buffer same }
leaves {buffer = buffer} (gathers {buffer = lent} _ _ _) same long =
    record { frames = refl; none_accepted = refl; calm = refl; left_long = stays lent buffer same }
leaves {buffer = buffer} (finds {buffer = lent} _ _ _ _ delivered _) same long =
    record { frames = refl; none_accepted = refl; calm = refl; left_long = delivers lent buffer same long delivered }
leaves {buffer = buffer} (passes_by {buffer = lent} _ _ _ _ _) same long =
    record { frames = refl; none_accepted = refl; calm = refl; left_long = stays lent buffer same }
leaves {buffer = buffer} (follows {buffer = lent} _ _ _ _ delivered) same long =
    record { frames = refl; none_accepted = refl; calm = refl; left_long = delivers lent buffer same long delivered }
leaves {buffer = buffer} (misses_one {buffer = lent} _ _ _ _ _ _) same long =
    record { frames = refl; none_accepted = refl; calm = refl; left_long = stays lent buffer same }
leaves {buffer = buffer} (loses_lock {buffer = lent} _ _ _ _ _ _) same long =
    record { frames = refl; none_accepted = refl; calm = refl; left_long = stays lent buffer same }
leaves (passes_on _) same long = cc
leaves restarts same long = cc
leaves (sets_patience _) same long = cc
leaves (keeps_patience _) same long = cc
leaves reports same long = cc

calm_there : (before events later : List Event) (e : Event) → AllCalm events → events ≡ before ++ e ∷ later → disturbs e ≡ false
calm_there [] [] later e calm same = cc
calm_there (b ∷ before) [] later e calm same = cc
calm_there [] (x ∷ es) later e calm same = ap disturbs (sym (same_head same)) ∙ calm.0
calm_there (b ∷ before) (x ∷ es) later e calm same = calm_there before es later e calm.1 (same_tail same)

pub undisturbed : (super_frames : ℕ) (events : List Event) → AllCalm events → Undisturbed super_frames events
undisturbed super_frames events calm before later e same disturbing =
    absurd (false≢true (sym (calm_there before events later e calm same) ∙ disturbing))

-- the calls of so many pulls
abbrev pulls : ℕ → ℕ → List Call
pulls size n = replicate n (Pull (120 * size))

all_taken : (size n : ℕ) (buffer left : List ℕ) (events : List Event) {r after : Reception} → Run r events after → r.size ≡ size
    → (1 ≤ size) × (size ≤ 24) → r.source.frame_length ≡ 24 * size → length buffer ≡ 120 * size → n ≤ length r.source.waiting
    → Answered (pulls size n) buffer events left → (number_taken events ≡ n) × AllCalm events
all_taken size zero buffer left [] run sized in_range frames long enough answered = (refl, tt)
all_taken size zero buffer left (e ∷ es) run sized in_range frames long enough answered = absurd answered
all_taken size (suc n) buffer left [] run sized in_range frames long enough answered = absurd answered
all_taken size (suc n) buffer left (e ∷ es) (goes_on {r = r} {between = between} rule rest) sized in_range frames long enough answered =
    let asked : asked_by e ≡ pull buffer = answered.0 ∙ ap pull (take_all (120 * size) buffer (omega arith)) in
    let long_here : length buffer ≡ 120 * r.size = omega (arith, long, sized) in
    let l = leaves rule asked long_here in
    let is_ready : Ready r buffer = ready r buffer (omega arith, omega arith) long_here (omega (arith, frames, sized)) in
    let taken : takes e ≡ true = line_served [] r r between e buffer ends rule asked is_ready (omega (arith, length-append r.source.waiting [])) in
    let one : ◌≡◌ {A = ℕ} (cond (takes e) 1 0) 1 = ap (λ t. cond {A = ℕ} t 1 0) taken in
    let fewer : length r.source.waiting ≡ 1 + length between.source.waiting =
    omega (
      arith,
      one,
      ap length (rule_line rule),
      length-append r.source.waiting (accepted_by e),
      length-append (frame_taken r e) between.source.waiting,
      rule_number rule,
      ap length l.none_accepted,
    ) in
    let still : n ≤ length between.source.waiting = omega (arith, fewer, enough) in
    let others =
    all_taken size n (left_by e buffer) left es rest (rule_size rule ∙ sized) in_range (l.frames ∙ frames) (l.left_long ∙ long) still answered.1 in
    (omega (arith, one, others.0), (l.calm, others.1))

-- a receiver that was driven over a recording, by a pull for each whole frame, took every one
pub whole_run : {L : Type 0} {hears : L → Call → Outcome → List ℕ → L → Type 0} {source : Source} {calls : List Call} {buffer left : List ℕ}
    {listener told : L} {end : Reception} (size : ℕ) (bytes : List ℕ) → Driven hears (new_receiver size source) calls buffer left listener told end
    → first_refusal (of_size size []) ≡ None → source ≡ recording_source (24 * size) bytes → calls ≡ pulls size (length bytes / (24 * size))
    → length buffer ≡ 120 * size → WholeRun size bytes
whole_run {buffer = buffer} {left = left} {end = end} size bytes driven admitted source_is calls_are long = record {
  events = driven.events;
  after = end;
  run = run;
  all_taken = taken.0;
  undisturbed = λ super_frames. undisturbed super_frames driven.events taken.1;
}
  where
    run : Run (receiver_over size bytes) driven.events end
    run = subst (λ s. Run (new_receiver size s) driven.events end) source_is driven.run

    in_range : (1 ≤ size) × (size ≤ 24)
    in_range = let parts = and_parts (leb 1 size) (leb size 24) (passed (leb 1 size && leb size 24) Size [] admitted).0 in (leb-true 1 size parts.0, leb-true size 24 parts.1)

    taken : (number_taken driven.events ≡ length bytes / (24 * size)) × AllCalm driven.events
    taken =
        all_taken size (length bytes / (24 * size)) buffer left driven.events run refl in_range refl long
        (omega (arith, length-map-range_with_len (frame_at (24 * size) bytes) 0 (length bytes / (24 * size))))
        (subst (λ calls. Answered calls buffer driven.events left) calls_are driven.answered)
