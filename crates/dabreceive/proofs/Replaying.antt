-- That a replay takes each frame of the recording.
use Rattle.std.proofs.Common.{◌≡◌, ℕ, ◌+◌, ◌*◌, ◌<◌, ◌≤◌, true, false, cond, List, [], ◌∷◌, ◌++◌, map, length, replicate, take, drop, length-take-le, length-drop, Option, Some, None, Ok, Err, Result, sym, refl, ap, ◌∙◌, subst, arith}
use Rattle.std.proofs.lemmas.Bool.{le-leb, eq-eqb}
use Rattle.std.proofs.lemmas.List.{length-append, append_assoc, length-replicate}
use Rattle.std.proofs.lemmas.List.Elements.{All-head, All-tail}
use Rattle.std.specs.List.{All, flat_map}
use Rattle.gf.specs.declared.refusal.Refusal.{Refusal}
use Rattle.gf.specs.Refusals.{first_refusal}
use Rattle.sources.specs.Sources.{Source, without_first, with_last, offer_complaints, Offers}
use Rattle.sources.specs.Queues.{queue_source}
use Rattle.sources.specs.Frames.{whole_frames}
use Rattle.sources.specs.laws.FrameLengths.{each_length}
use Rattle.reception.specs.declared.answers.Delivery.{Delivery}
use Rattle.reception.specs.declared.calls.Call.{Call}
use Rattle.reception.specs.declared.calls.Call.TheVariants as calls
use Rattle.reception.specs.Receptions.{Reception, pull_complaints, Event, pull, offer, patience, asked_by}
use Rattle.reception.specs.Blocks.{Delivers}
use Rattle.reception.specs.Rules.{Ready, Rule, pull_refused, nothing_waits, gathers, finds, passes_by, follows, misses_one, loses_lock, passes_on, restarts, sets_patience, keeps_patience, reports}
use Rattle.reception.specs.Runs.{Run, ends, goes_on, takes, frame_taken, frames_taken}
use Rattle.reception.specs.Driving.{asked_of, left_by, Answered}
use Rattle.reception.proofs.NotRefused.{not_both, admitted}
use Rattle.reception.proofs.Steps.{rule_size}
use Rattle.dabreceive.specs.declared.summary.Summary.{Summary}
use Rattle.dabreceive.specs.Plans.{Question, question, first_questions, replay_questions}
use Rattle.dabreceive.specs.Reports.{SumsUp, Replays}
use Rattle.dabreceive.specs.Plans as questions

-- A receiver over an empty queue.
abbrev pub empty : ℕ → Source
empty size = queue_source (24 * size) [] 32

-- The frame that is offered waits, and no frame is taken.
record OffersOne (r : Reception) (frame : List ℕ) (e : Event) (after : Reception) : Type 0 where
  pub source : after.source ≡ with_last r.source frame
  pub none_taken : takes e ≡ false
  pub buffer : (bytes : List ℕ) → left_by e bytes ≡ bytes

-- What a queue is offered that is not full, and has the right length.
accepted_one : (s after : Source) (frame : List ℕ) (answer : Result Unit Refusal) → Offers s frame after answer
    → first_refusal (offer_complaints s frame) ≡ None → after ≡ with_last s frame
accepted_one s after frame (Ok _) step free = step.1
accepted_one s after frame (Err refusal) step free = not_both (first_refusal (offer_complaints s frame)) refusal free step.0

same_frame : {one other : List ℕ} → offer one ≡ offer other → one ≡ other
same_frame same = cc

same_buffer : {one other : List ℕ} → pull one ≡ pull other → one ≡ other
same_buffer same = cc

offered_one : {r after : Reception} {e : Event} {frame : List ℕ} → Rule r e after → asked_by e ≡ offer frame
    → first_refusal (offer_complaints r.source frame) ≡ None → OffersOne r frame e after
offered_one {frame = frame} (passes_on {r = r} {frame = other} {after = after} {answer = answer} step) same free = record {
  source = accepted_one r.source after frame answer (subst (λ (f : List ℕ). Offers r.source f after answer) (same_frame same) step) free;
  none_taken = refl;
  buffer = λ bytes. refl;
}
offered_one restarts same free = cc
offered_one (sets_patience _) same free = cc
offered_one (keeps_patience _) same free = cc
offered_one reports same free = cc
offered_one _ same free = cc

-- The frame in front is taken, and the buffer keeps its length.
record TakesOne (r : Reception) (lent : List ℕ) (e : Event) (after : Reception) : Type 0 where
  pub source : after.source ≡ without_first r.source
  pub taken : takes e ≡ true
  pub buffer : (bytes : List ℕ) → length lent ≤ length bytes → length (left_by e bytes) ≡ length bytes

delivered_long : (r : Reception) (lent received block : List ℕ) (d : Delivery) → Ready r lent → Delivers r.size received d block
    → length block ≡ length lent
delivered_long r lent received block d ready delivers =
    delivers.repaired.rows.long ∙ delivers.repaired.long ∙ sym (admitted r lent ready).buffer_long

written : (lent other left bytes : List ℕ) → pull other ≡ pull lent → length left ≡ length other → length lent ≤ length bytes
    → length (left ++ drop (length other) bytes) ≡ length bytes
written lent other left bytes same long within =
    length-append left (drop (length other) bytes)
    ∙ omega (arith, long, within, length-drop (length other) bytes, ap length (same_buffer same))

pulled_one : {r after : Reception} {e : Event} {lent : List ℕ} → Rule r e after → asked_by e ≡ pull lent → Ready r lent
    → 0 < length r.source.waiting → TakesOne r lent e after
pulled_one {lent = lent} (pull_refused {r = r} {refusal = refusal} refused) same ready some =
    not_both (first_refusal (pull_complaints r lent)) refusal ready
    (ap (λ b. first_refusal (pull_complaints r b)) (sym (same_buffer same)) ∙ refused)
pulled_one (nothing_waits _ none) same ready some = absurd (omega (arith, ap length none))
pulled_one {lent = lent} (gathers {buffer = other} _ _ _) same ready some =
    record { source = refl; taken = refl; buffer = λ bytes within. written lent other other bytes same refl within }
pulled_one {lent = lent} (finds {r = r} {buffer = other} {block = block} {d = d} other_ready _ _ _ delivers _) same ready some =
    record { source = refl; taken = refl; buffer = λ bytes within. written lent other block bytes same (delivered_long r other _ block d other_ready delivers) within }
pulled_one {lent = lent} (passes_by {buffer = other} _ _ _ _ _) same ready some =
    record { source = refl; taken = refl; buffer = λ bytes within. written lent other other bytes same refl within }
pulled_one {lent = lent} (follows {r = r} {buffer = other} {block = block} {d = d} other_ready _ _ _ delivers) same ready some =
    record { source = refl; taken = refl; buffer = λ bytes within. written lent other block bytes same (delivered_long r other _ block d other_ready delivers) within }
pulled_one {lent = lent} (misses_one {buffer = other} _ _ _ _ _ _) same ready some =
    record { source = refl; taken = refl; buffer = λ bytes within. written lent other other bytes same refl within }
pulled_one {lent = lent} (loses_lock {buffer = other} _ _ _ _ _ _) same ready some =
    record { source = refl; taken = refl; buffer = λ bytes within. written lent other other bytes same refl within }
pulled_one (passes_on _) same ready some = cc
pulled_one restarts same ready some = cc
pulled_one (sets_patience _) same ready some = cc
pulled_one (keeps_patience _) same ready some = cc
pulled_one reports same ready some = cc

-- Setting the patience leaves frames and buffer alone.
record Keeps (r : Reception) (e : Event) (after : Reception) : Type 0 where
  pub source : after.source ≡ r.source
  pub none_taken : takes e ≡ false
  pub buffer : (bytes : List ℕ) → left_by e bytes ≡ bytes

set_one : {r after : Reception} {e : Event} {number : ℕ} → Rule r e after → asked_by e ≡ patience number → Keeps r e after
set_one (sets_patience _) same = record { source = refl; none_taken = refl; buffer = λ bytes. refl }
set_one (keeps_patience _) same = record { source = refl; none_taken = refl; buffer = λ bytes. refl }
set_one (passes_on _) same = cc
set_one restarts same = cc
set_one reports same = cc
set_one _ same = cc

-- what a call asks that has a question
asks_offer : (call : Call) (buffer frame : List ℕ) → question call ≡ questions.offer frame → asked_of call buffer ≡ offer frame
asks_offer (calls.Offer f) buffer frame same = cc
asks_offer (calls.Pull long) buffer frame same = cc
asks_offer calls.Reset buffer frame same = cc
asks_offer (calls.Patience number) buffer frame same = cc
asks_offer calls.Report buffer frame same = cc

asks_pull : (call : Call) (buffer : List ℕ) (long : ℕ) → question call ≡ questions.pull long → asked_of call buffer ≡ pull (take long buffer)
asks_pull (calls.Offer f) buffer long same = cc
asks_pull (calls.Pull n) buffer long same = cc
asks_pull calls.Reset buffer long same = cc
asks_pull (calls.Patience number) buffer long same = cc
asks_pull calls.Report buffer long same = cc

asks_patience : (call : Call) (buffer : List ℕ) (number : ℕ) → question call ≡ questions.patience number → asked_of call buffer ≡ patience number
asks_patience (calls.Offer f) buffer number same = cc
asks_patience (calls.Pull n) buffer number same = cc
asks_patience calls.Reset buffer number same = cc
asks_patience (calls.Patience n) buffer number same = cc
asks_patience calls.Report buffer number same = cc

module _ (size : ℕ) (least : 1 ≤ size) (most : size ≤ 24) where
  -- Between two frames: nothing waits, and the buffer is one byte longer than a block.
  record Idle (r : Reception) (buffer : List ℕ) : Type 0 where
    pub size_is : r.size ≡ size
    pub source_is : r.source ≡ empty size
    pub long : length buffer ≡ 120 * size + 1

  free : (r : Reception) (buffer frame : List ℕ) → Idle r buffer → length frame ≡ 24 * size → first_refusal (offer_complaints r.source frame) ≡ None
  free r buffer frame idle long =
      subst (λ (s : Source). first_refusal (offer_complaints s frame) ≡ None) (sym idle.source_is) (rw (eq-eqb (length frame) (24 * size) long) refl)

  ready : (r : Reception) (lent : List ℕ) → r.size ≡ size → r.source.frame_length ≡ 24 * size → length lent ≡ 120 * size → Ready r lent
  ready r lent size_is frame_long long =
      rw (
        le-leb 1 r.size (omega (arith, size_is, least)),
        le-leb r.size 24 (omega (arith, size_is, most)),
        eq-eqb (length lent) (120 * r.size) (omega (arith, long, size_is)),
        eq-eqb r.source.frame_length (24 * r.size) (omega (arith, frame_long, size_is)),
      ) refl

  -- A frame was offered, and taken.
  record Passes (r between after : Reception) (buffer frame : List ℕ) (first second : Event) : Type 0 where
    pub idle : Idle after (left_by second (left_by first buffer))
    pub taken : frame_taken r first ++ frame_taken between second ≡ frame ∷ []

  passed : (r between after : Reception) (buffer frame : List ℕ) (first second : Event) → Idle r buffer → length frame ≡ 24 * size
      → Rule r first between → asked_by first ≡ offer frame → Rule between second after
      → asked_by second ≡ pull (take (120 * size) (left_by first buffer)) → Passes r between after buffer frame first second
  passed r between after buffer frame first second idle long first_rule first_asked second_rule second_asked = record {
    idle = record {
      size_is = rule_size second_rule ∙ between_size;
      source_is = takes_one.source ∙ ap without_first between_source;
      long = takes_one.buffer (left_by first buffer) (omega (arith, lent_long, buffer_long)) ∙ buffer_long;
    };
    taken =
        ap (λ t. cond t (take 1 r.source.waiting) [] ++ frame_taken between second) offers_one.none_taken
        ∙ ap (λ t. cond t (take 1 between.source.waiting) []) takes_one.taken
        ∙ ap (λ (s : Source). take 1 s.waiting) between_source;
  }
    where
      offers_one : OffersOne r frame first between
      offers_one = offered_one first_rule first_asked (free r buffer frame idle long)

      between_source : between.source ≡ with_last (empty size) frame
      between_source = offers_one.source ∙ ap (λ (s : Source). with_last s frame) idle.source_is

      between_size : between.size ≡ size
      between_size = rule_size first_rule ∙ idle.size_is

      buffer_long : length (left_by first buffer) ≡ 120 * size + 1
      buffer_long = ap length (offers_one.buffer buffer) ∙ idle.long

      lent_long : length (take (120 * size) (left_by first buffer)) ≡ 120 * size
      lent_long = length-take-le (120 * size) (left_by first buffer) (omega (arith, buffer_long))

      takes_one : TakesOne between (take (120 * size) (left_by first buffer)) second after
      takes_one =
          pulled_one second_rule second_asked
          (ready between (take (120 * size) (left_by first buffer)) between_size (ap (λ (s : Source). s.frame_length) between_source) lent_long)
          (omega (arith, ap (λ (s : Source). length s.waiting) between_source))

  -- Each of these frames was offered, and then one was taken.
  replayed : (frames : List (List ℕ)) → All (λ frame. length frame ≡ 24 * size) frames → (asked : List Call)
      → map question asked ≡ flat_map (λ frame. questions.offer frame ∷ questions.pull (120 * size) ∷ []) frames
      → {r end : Reception} {events : List Event} (run : Run r events end) (buffer left : List ℕ) → Idle r buffer → Answered asked buffer events left
      → frames_taken run ≡ frames
  replayed [] all [] same ends buffer left idle answered = refl
  replayed [] all [] same (goes_on rule rest) buffer left idle answered = absurd answered
  replayed [] all (c ∷ cs) same run buffer left idle answered = absurd (omega (arith, ap length same))
  replayed (f ∷ fs) all [] same run buffer left idle answered = absurd (omega (arith, ap length same))
  replayed (f ∷ fs) all (c ∷ []) same run buffer left idle answered = absurd (omega (arith, ap length same))
  replayed (f ∷ fs) all (c ∷ d ∷ cs) same ends buffer left idle answered = absurd answered
  replayed (f ∷ fs) all (c ∷ d ∷ cs) same (goes_on rule ends) buffer left idle answered = absurd answered.1
  replayed (f ∷ fs) all (c ∷ d ∷ cs) same (goes_on {r = r} {between = between} {e = first} rule (goes_on {between = after} {e = second} next rest)) buffer left idle answered =
      let offers : question c ≡ questions.offer f = cc in
      let pulls : question d ≡ questions.pull (120 * size) = cc in
      let others : map question cs ≡ flat_map (λ frame. questions.offer frame ∷ questions.pull (120 * size) ∷ []) fs = cc in
      let pass =
      passed r between after buffer f first second idle (All-head (λ frame. length frame ≡ 24 * size) f fs all) rule
      (answered.0 ∙ asks_offer c buffer f offers) next (answered.1.0 ∙ asks_pull d (left_by first buffer) (120 * size) pulls)
      in
      sym (append_assoc (frame_taken r first) (frame_taken between second) (frames_taken rest))
      ∙ ap (λ (taken : List (List ℕ)). taken ++ frames_taken rest) pass.taken
      ∙ ap (λ (taken : List (List ℕ)). f ∷ taken)
      (replayed fs (All-tail (λ frame. length frame ≡ 24 * size) f fs all) cs others rest (left_by second (left_by first buffer)) left pass.idle answered.1.1)

  -- The same with the patience set before.
  all_taken : (given : Option ℕ) (bytes : List ℕ) (asked : List Call) → map question asked ≡ first_questions given ++ replay_questions size bytes
      → {r end : Reception} {events : List Event} (run : Run r events end) (buffer left : List ℕ) → Idle r buffer → Answered asked buffer events left
      → frames_taken run ≡ whole_frames (24 * size) bytes
  all_taken None bytes asked same run buffer left idle answered =
      replayed (whole_frames (24 * size) bytes) (each_length (24 * size) bytes) asked same run buffer left idle answered
  all_taken (Some number) bytes [] same run buffer left idle answered = absurd (omega (arith, ap length same))
  all_taken (Some number) bytes (c ∷ cs) same ends buffer left idle answered = absurd answered
  all_taken (Some number) bytes (c ∷ cs) same (goes_on {r = r} {e = e} rule rest) buffer left idle answered =
      let sets : question c ≡ questions.patience number = cc in
      let others : map question cs ≡ replay_questions size bytes = cc in
      let kept = set_one rule (answered.0 ∙ asks_patience c buffer number sets) in
      ap (λ t. cond t (take 1 r.source.waiting) [] ++ frames_taken rest) kept.none_taken
      ∙ replayed (whole_frames (24 * size) bytes) (each_length (24 * size) bytes) cs others rest (left_by e buffer) left
      (record { size_is = rule_size rule ∙ idle.size_is; source_is = kept.source ∙ idle.source_is; long = ap length (kept.buffer buffer) ∙ idle.long })
      answered.1

  -- What was summed up of the calls of a replay.
  pub replays : (given : Option ℕ) (bytes : List ℕ) (asked : List Call) (summary after : Summary)
      → map question asked ≡ first_questions given ++ replay_questions size bytes → SumsUp size asked summary after
      → Replays size given bytes summary after
  replays given bytes asked summary after same sums = record {
    calls = asked;
    asked = same;
    sums = sums;
    taken = all_taken given bytes asked same sums.run (replicate (120 * size + 1) 0) sums.left
        (record { size_is = refl; source_is = refl; long = length-replicate (120 * size + 1) 0 }) sums.answered;
  }
