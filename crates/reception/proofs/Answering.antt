-- The rules leave each call an answer, and but one.
use Rattle.std.proofs.Common.{◌≡◌, ℕ, ◌+◌, ◌-◌, ◌*◌, ◌<◌, ◌≤◌, List, [], ◌∷◌, length, drop, Some, None, Ok, Err, Option, Result, refl, sym, ap, ◌∙◌, subst, inl, inr, eqb, eqb-true, length-append, arith}
use Rattle.std.proofs.lemmas.Bool.{cases_eq, cases_lt}
use Rattle.std.proofs.lemmas.List.{get_or_append_left, get_or-append_right}
use Rattle.std.proofs.lemmas.List.Elements.{All-nil, All-head, All-tail, All-push, All-drop}
use Rattle.std.specs.List.{All, concat}
use Rattle.gf.specs.declared.refusal.Refusal.{Refusal}
use Rattle.gf.specs.declared.refusal.Refusal.TheVariants.{FrameLength, Full}
use Rattle.gf.specs.Refusals.{first_refusal}
use Rattle.interleaver.specs.declared.repair.Repair.{Repair}
use Rattle.interleaver.specs.Rows.{AreBytes}
use Rattle.block.specs.declared.header.Header.{Header}
use Rattle.block.specs.Headers.{header}
use Rattle.sources.specs.Sources.{with_last, offer_complaints}
use Rattle.reception.specs.declared.mode.Mode.{Mode}
use Rattle.reception.specs.declared.mode.Mode.TheVariants.{Hunting, Locked}
use Rattle.reception.specs.declared.answers.Delivery.{Delivery}
use Rattle.reception.specs.Receptions.{Reception, taking, pull_complaints, Event, Asked, pull, offer, reset, patience, report, asked_by, patience_complaints}
use Rattle.reception.specs.Blocks.{RepairOf, states_of_units, Delivers, Misread}
use Rattle.reception.specs.Rules.{Ready, InFront, with_frame, Fifth, received, Rule, pull_refused, nothing_waits, gathers, finds, passes_by, follows, misses_one, loses_lock, passes_on, restarts, sets_patience, keeps_patience, reports}
use Rattle.reception.specs.Service.{Sound, AsksOfBytes, OneAnswer}
use Rattle.reception.proofs.RepairedBlocks.{repaired_somehow}
use Rattle.reception.proofs.Lists.{four_left}
use Rattle.reception.proofs.NotRefused.{passed, admitted}
use Rattle.reception.proofs.Judging.{never_both, none_left}
use Rattle.reception.proofs.OneWay.{unique}

-- frames of one length and of bytes, put together
length-concat : (long : ℕ) (frames : List (List ℕ)) → All (λ frame. length frame ≡ long) frames → length (concat frames) ≡ length frames * long
length-concat long [] all = omega arith
length-concat long (frame ∷ frames) all =
    length-append frame (concat frames)
    ∙ omega (
      arith,
      All-head (λ f. length f ≡ long) frame frames all,
      length-concat long frames (All-tail (λ f. length f ≡ long) frame frames all),
    )

AreBytes-concat : (frames : List (List ℕ)) → All AreBytes frames → AreBytes (concat frames)
AreBytes-concat [] all k = omega arith
AreBytes-concat (frame ∷ frames) all k = elim (cases_lt k (length frame)) [
  | inl before ↦ subst (λ b. b < 256) (sym (get_or_append_left frame (concat frames) 0 k before)) (All-head AreBytes frame frames all k)
  | inr behind ↦
      subst (λ b. b < 256) (sym (get_or-append_right frame (concat frames) (length frame) k 0 refl behind))
      (AreBytes-concat frames (All-tail AreBytes frame frames all) (k - length frame))
]

-- an answer to what is asked, by the rules, that leaves the receiver as it should be
abbrev Answer : Reception → Asked → Type 0
Answer r asked = (e : Event) × (after : Reception) × (asked_by e ≡ asked) × Rule r e after × Sound after

answer : {r after : Reception} {e : Event} → Rule r e after → Sound after → Answer r (asked_by e)
answer {r} {after} {e} rule sound = (e, after, refl, rule, sound)

abbrev HasLength : Reception → List ℕ → Type 0
HasLength r frame = length frame ≡ 24 * r.size

module _ (r : Reception) (sound : Sound r) where
  sound_taking : (mode : Mode) (held : List (List ℕ)) (misses : ℕ) → length held ≤ 4 → All (HasLength r) held → All AreBytes held
      → Sound (taking r mode held misses)
  sound_taking mode held misses few long bytes = record {
    few = few;
    held_long = long;
    held_bytes = bytes;
    waiting_long = All-drop (λ frame. length frame ≡ r.source.frame_length) 1 r.source.waiting sound.waiting_long;
    waiting_bytes = All-drop AreBytes 1 r.source.waiting sound.waiting_bytes;
  }

  module _ (lent frame : List ℕ) (ready : Ready r lent) (front : InFront r frame) where
    all_long : All (HasLength r) (with_frame r frame)
    all_long =
        All-push (HasLength r) r.held frame sound.held_long
        (All-head (λ f. length f ≡ r.source.frame_length) frame (drop 1 r.source.waiting)
        (subst (All (λ f. length f ≡ r.source.frame_length)) front sound.waiting_long)
        ∙ (admitted r lent ready).frames_long)

    all_bytes : All AreBytes (with_frame r frame)
    all_bytes =
        All-push AreBytes r.held frame sound.held_bytes
        (All-head AreBytes frame (drop 1 r.source.waiting) (subst (All AreBytes) front sound.waiting_bytes))

    sound_four : Fifth r → (misses : ℕ) → Sound (taking r Hunting (drop 1 (with_frame r frame)) misses)
    sound_four five misses =
        sound_taking Hunting (drop 1 (with_frame r frame)) misses (omega (arith, four_left r.held frame five))
        (All-drop (HasLength r) 1 (with_frame r frame) all_long) (All-drop AreBytes 1 (with_frame r frame) all_bytes)

    sound_none : (misses : ℕ) → Sound (taking r Locked [] misses)
    sound_none misses = sound_taking Locked [] misses (omega arith) (All-nil (HasLength r)) (All-nil AreBytes)

    -- five frames, repaired and read
    module _ (five : Fifth r) (block : List ℕ) (repair : Repair) (repaired : RepairOf r.size (received r frame) block repair) where
      delivery : Header → Delivery
      delivery h = record { header = h; repair = repair; units = states_of_units h block }

      delivers : (h : Header) → header r.size block ≡ Ok h → Delivers r.size (received r frame) (delivery h) block
      unfolding delivery
      delivers h reads = record { repaired = repaired; header_is = reads; units_are = refl }

      misses : (refusal : Refusal) → header r.size block ≡ Err refusal → Misread r.size (received r frame) refusal
      misses refusal refused = record { block = block; repair = repair; repaired = repaired; refused = refused }

      read_five : (mode : Mode) → r.mode ≡ mode → (read : Result Header Refusal) → header r.size block ≡ read → Answer r (pull lent)
      unfolding delivery
      read_five Hunting hunting (Ok h) reads = elim (cases_eq repair.rows_left 0) [
        | inl none ↦ answer (finds {buffer = lent} ready front five hunting (delivers h reads) none) (sound_none 0)
        | inr some_left ↦ answer (passes_by {buffer = lent} ready front five hunting (λ c. some_left (none_left r.size (received r frame) block (delivery h) (delivers h reads) c.0))) (sound_four five r.misses)
      ]
      read_five Hunting hunting (Err refusal) reads =
          answer (passes_by {buffer = lent} ready front five hunting (λ c. never_both r.size (received r frame) refusal (misses refusal reads) c.1)) (sound_four five r.misses)
      read_five Locked locked (Ok h) reads = answer (follows {buffer = lent} ready front five locked (delivers h reads)) (sound_none 0)
      read_five Locked locked (Err refusal) reads = elim (cases_lt (r.misses + 1) r.patience) [
        | inl less ↦ answer (misses_one {buffer = lent} ready front five locked (misses refusal reads) less) (sound_none (r.misses + 1))
        | inr more ↦ answer (loses_lock {buffer = lent} ready front five locked (misses refusal reads) more) (sound_four five 0)
      ]

    with_five : Fifth r → Answer r (pull lent)
    with_five five =
        let sure = admitted r lent ready in
        let repaired = repaired_somehow r.size (received r frame) sure.in_range.0 sure.in_range.1
        (length-concat (24 * r.size) (with_frame r frame) all_long
        ∙ ap (λ (n : ℕ). n * (24 * r.size)) (length-append r.held (frame ∷ []) ∙ five) ∙ omega arith)
        (AreBytes-concat (with_frame r frame) all_bytes) in
        read_five five repaired.0 repaired.1 repaired.2 r.mode refl (header r.size repaired.0) refl

    with_one : Answer r (pull lent)
    with_one = elim (cases_lt (length r.held + 1) 5) [
      | inl few ↦
          answer (gathers {buffer = lent} ready front few)
          (sound_taking r.mode (with_frame r frame) r.misses (omega (arith, length-append r.held (frame ∷ []))) all_long all_bytes)
      | inr enough ↦ with_five (omega (arith, sound.few))
    ]

  pulls : (lent : List ℕ) (waiting : List (List ℕ)) (first : Option Refusal) → r.source.waiting ≡ waiting
      → first_refusal (pull_complaints r lent) ≡ first → Answer r (pull lent)
  pulls lent waiting (Some refusal) waits refused = answer (pull_refused {buffer = lent} refused) sound
  pulls lent [] None waits ready = answer (nothing_waits {buffer = lent} ready waits) sound
  pulls lent (frame ∷ waiting) None waits ready = with_one lent frame ready (waits ∙ ap (λ l. frame ∷ drop 1 l) (sym waits))

  offers : (frame : List ℕ) → AreBytes frame → (first : Option Refusal) → first_refusal (offer_complaints r.source frame) ≡ first
      → Answer r (offer frame)
  offers frame bytes (Some refusal) refused = answer (passes_on {frame = frame} {after = r.source} {answer = Err refusal} (refused, refl)) sound
  offers frame bytes None none =
      answer (passes_on {frame = frame} {after = with_last r.source frame} {answer = Ok tt} (none, refl))
      (record {
        few = sound.few;
        held_long = sound.held_long;
        held_bytes = sound.held_bytes;
        waiting_long =
            All-push (λ f. length f ≡ r.source.frame_length) r.source.waiting frame sound.waiting_long
            (eqb-true (length frame) r.source.frame_length
            (passed (eqb (length frame) r.source.frame_length) FrameLength ((eqb r.source.free 0, Full) ∷ []) none).0);
        waiting_bytes = All-push AreBytes r.source.waiting frame sound.waiting_bytes bytes;
      })

  patiences : (number : ℕ) (first : Option Refusal) → first_refusal (patience_complaints number) ≡ first → Answer r (patience number)
  patiences number None none =
      answer (sets_patience {number = number} none)
      (record {
        few = sound.few;
        held_long = sound.held_long;
        held_bytes = sound.held_bytes;
        waiting_long = sound.waiting_long;
        waiting_bytes = sound.waiting_bytes;
      })
  patiences number (Some refusal) refused = answer (keeps_patience {number = number} refused) sound

exists : (r : Reception) (asked : Asked) → Sound r → AsksOfBytes asked → Answer r asked
exists r (pull lent) sound bytes = pulls r sound lent r.source.waiting (first_refusal (pull_complaints r lent)) refl refl
exists r (offer frame) sound bytes = offers r sound frame bytes (first_refusal (offer_complaints r.source frame)) refl
exists r reset sound bytes =
    answer restarts
    (record {
      few = omega arith;
      held_long = All-nil (HasLength r);
      held_bytes = All-nil AreBytes;
      waiting_long = sound.waiting_long;
      waiting_bytes = sound.waiting_bytes;
    })
exists r (patience number) sound bytes = patiences r sound number (first_refusal (patience_complaints number)) refl
exists r report sound bytes = answer reports sound

pub one_answer : OneAnswer
one_answer = record {
  made = λ size source long bytes. record {
    few = omega arith;
    held_long = All-nil (λ frame. length frame ≡ 24 * size);
    held_bytes = All-nil AreBytes;
    waiting_long = long;
    waiting_bytes = bytes;
  };
  exists = exists;
  unique = unique;
}
