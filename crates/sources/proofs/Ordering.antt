-- Whatever the calls of a source are, frames come out in the order in which they went in.
use Rattle.std.proofs.Common.{◌≡◌, ℕ, ◌+◌, ◌<◌, Bool, true, false, cond, not, ◌==◌, List, [], ◌∷◌, ◌++◌, length, Ok, Err, Some, None, sym, refl, ap, ◌∙◌, arith}
use Rattle.std.proofs.lemmas.List.{length-append, append_assoc, append-nil}
use Rattle.std.proofs.lemmas.Bool.{eqb-false}
use Rattle.std.specs.List.{flat_map}
use Rattle.gf.specs.declared.refusal.Refusal.TheVariants.{FrameLength, Full}
use Rattle.sources.specs.declared.source.Next.TheVariants.{Frame, NothingWaiting}
use Rattle.sources.specs.Sources.{Source, without_first, with_last, Offers}
use Rattle.sources.specs.Runs.{Call, asked, offered, Step, taken_out, put_in, Accounts, FirstInFirstOut}

unchanged : (s after : Source) (calls : List Call) → flat_map put_in calls ≡ [] → flat_map taken_out calls ≡ [] → after ≡ s → Accounts s calls after
unchanged s after calls none_in none_out same = record {
  frames =
      ap (λ frames. s.waiting ++ frames) none_in ∙ append-nil s.waiting ∙ ap (λ t. t.waiting) (sym same)
      ∙ ap (λ (frames : List (List ℕ)). frames ++ after.waiting) (sym none_out);
  places_kept = λ _. ap (λ t. length t.waiting + t.free) same;
  places_used = λ _. omega (arith, ap (λ t. t.free) same, ap length none_in);
  frame_length = ap (λ t. t.frame_length) same;
  gives_back = ap (λ t. t.gives_back) same;
}

-- an offer that is not refused has found a free place
pub some_free : (s : Source) (frame : List ℕ) (after : Source) → Offers s frame after (Ok tt) → 0 < s.free
some_free s frame after step = let not_zero = eqb-false s.free 0 (by (length frame == s.frame_length) (s.free == 0) step.0) in grind (arith, not_zero)
  where
    by : (same full : Bool) → cond (not same) (Some FrameLength) (cond full (Some Full) None) ≡ None → full ≡ false
    by true false e = refl
    by true true e = absurd (let z : ◌≡◌ {A = ℕ} 0 1 = cc in omega arith)
    by false full e = absurd (let z : ◌≡◌ {A = ℕ} 0 1 = cc in omega arith)

one_call : (s : Source) (call : Call) (after : Source) → Step s call after → Accounts s (call ∷ []) after
one_call s (asked lent filled (Ok Frame)) after step =
    let same : after ≡ without_first s = step.1.1 in
    record {
      frames = append-nil s.waiting ∙ step.1.0 ∙ ap (λ frames. filled ∷ frames) (ap (λ t. t.waiting) (sym same));
      places_kept = λ gives. omega (
        arith,
        ap (λ t. length t.waiting + t.free) same,
        ap length step.1.0,
        ap (λ (back : Bool). cond back (s.free + 1) s.free) gives,
      );
      places_used = λ keeps. omega (arith, ap (λ t. t.free) same, ap (λ (back : Bool). cond back (s.free + 1) s.free) keeps);
      frame_length = ap (λ t. t.frame_length) same;
      gives_back = ap (λ t. t.gives_back) same;
    }
one_call s (asked lent filled (Ok NothingWaiting)) after step = unchanged s after (asked lent filled (Ok NothingWaiting) ∷ []) refl refl step.1.1
one_call s (asked lent filled (Err refusal)) after step = unchanged s after (asked lent filled (Err refusal) ∷ []) refl refl step.1.0
one_call s (offered frame (Ok _)) after step =
    let same : after ≡ with_last s frame = step.1 in
    let free : 0 < s.free = some_free s frame after step in
    record {
      frames = ap (λ t. t.waiting) (sym same);
      places_kept = λ _. ap (λ t. length t.waiting + t.free) same ∙ omega (arith, free, length-append s.waiting (frame ∷ []));
      places_used = λ _. ap (λ t. t.free + 1) same ∙ omega (arith, free);
      frame_length = ap (λ t. t.frame_length) same;
      gives_back = ap (λ t. t.gives_back) same;
    }
one_call s (offered frame (Err refusal)) after step = unchanged s after (offered frame (Err refusal) ∷ []) refl refl step.1

more_calls : (s between after : Source) (call : Call) (calls : List Call) → Accounts s (call ∷ []) between → Accounts between calls after
    → Accounts s (call ∷ calls) after
more_calls s between after call calls first later = record {
  frames =
      sym (append_assoc s.waiting (put_in call) (flat_map put_in calls))
      ∙ ap (λ (frames : List (List ℕ)). frames ++ flat_map put_in calls)
      (ap (λ frames. s.waiting ++ frames) (sym (append-nil (put_in call))) ∙ first.frames ∙ ap (λ (frames : List (List ℕ)). frames ++ between.waiting) (append-nil (taken_out call)))
      ∙ append_assoc (taken_out call) between.waiting (flat_map put_in calls)
      ∙ ap (λ frames. taken_out call ++ frames) later.frames
      ∙ sym (append_assoc (taken_out call) (flat_map taken_out calls) after.waiting);
  places_kept = λ gives. later.places_kept (first.gives_back ∙ gives) ∙ first.places_kept gives;
  places_used = λ keeps. omega (
    arith,
    later.places_used (first.gives_back ∙ keeps),
    first.places_used keeps,
    length-append (put_in call) (flat_map put_in calls),
    ap length (append-nil (put_in call)),
  );
  frame_length = later.frame_length ∙ first.frame_length;
  gives_back = later.gives_back ∙ first.gives_back;
}

pub first_in_first_out : FirstInFirstOut
first_in_first_out s [] after run = unchanged s after [] refl refl run
first_in_first_out s (call ∷ calls) after run =
    more_calls s run.0 after call calls (one_call s call run.0 run.1) (first_in_first_out run.0 calls after run.2)
