-- A recording that is handed in makes a run of which the law of recovery speaks, and in which as many super frames are lost as it allows.
use Rattle.std.proofs.Common.{◌≡◌, ℕ, zero, suc, ◌+◌, ◌-◌, ◌*◌, ◌/◌, ◌^◌, ◌<◌, ◌≤◌, Bool, true, false, cond, List, [], ◌∷◌, ◌++◌, length, map, take, drop, Ok, sym, refl, ap, ap₂, ◌∙◌, subst, length-append, append-nil, take-append-drop, arith}
use Rattle.std.proofs.lemmas.List.FromFn.{take-map-range_with_len, length-map-range_with_len}
use Rattle.std.specs.List.{range_with_len}
use Rattle.interleaver.specs.Rows.{wrong}
use Rattle.sources.specs.Sources.{Source}
use Rattle.sources.specs.Frames.{frame_at, whole_frames}
use Rattle.sources.specs.Queues.{queue_source}
use Rattle.reception.specs.declared.mode.Mode.TheVariants.{Locked}
use Rattle.reception.specs.declared.answers.Report.{Report}
use Rattle.reception.specs.Receptions.{Reception, Event, new_receiver, report_of, patience_set, reported}
use Rattle.reception.specs.Rules.{Rule, pull_refused, nothing_waits, gathers, finds, passes_by, follows, misses_one, loses_lock, passes_on, restarts, sets_patience, keeps_patience, reports}
use Rattle.reception.specs.Blocks.{SuperFrame}
use Rattle.reception.specs.Runs.{Run, goes_on, takes, number_taken, frames_taken, accepted, patience_after, until_taken}
use Rattle.reception.specs.Recovery.{At, line_of, NoOtherLegible, AsWritten, Supposed}
use Rattle.reception.proofs.Steps.{run_line, run_number}
use Rattle.reception.proofs.WholeRuns.{patience_after-append, quiet_keeps}
use Rattle.reception.proofs.Recovering.{back_after_bad_reception}
use Rattle.stretches.specs.declared.losses.Passage.{Passage}
use Rattle.stretches.specs.Instances.{five_frames, IsStretch, count_from, DeliveredIn}
use Rattle.stretches.specs.Losses.{LosesAndIsBack}
use Rattle.stretches.specs.steps.Feeding.{AllCalm, nothing_heard, Smooth, frames_from, Passed}
use Rattle.stretches.proofs.Instancing.{sent, sent_counted, sent_each, own_five, stretch, no_other_legible}
use Rattle.stretches.proofs.Pulling.{undisturbed}
use Rattle.stretches.proofs.Demonstrating.{taking}

-- the patience stays where nothing disturbs
calm_patience : (es : List Event) (p : ℕ) → AllCalm es → patience_after p es ≡ p
calm_patience [] p calm = refl
calm_patience (e ∷ es) p calm = ap (λ k. patience_after k es) (quiet_keeps e p calm.0) ∙ calm_patience es p calm.1

calm_until : (es : List Event) → AllCalm es → AllCalm (until_taken es)
calm_until [] calm = tt
calm_until (e ∷ es) calm = by (takes e) (calm_until es calm.1)
  where
    by : (b : Bool) → AllCalm (until_taken es) → AllCalm (cond b [] (e ∷ until_taken es))
    by true others = tt
    by false others = (calm.0, others)

none_left : {A : Type 0} (xs : List A) → length xs ≡ 0 → xs ≡ []
none_left [] none = refl
none_left (x ∷ xs) none = absurd (omega arith)

drop-map-range_with_len : {X : Type 0} (f : ℕ → X) (a k n : ℕ) → drop k (map f (range_with_len a (k + n))) ≡ map f (range_with_len (a + k) n)
drop-map-range_with_len f a zero n =
    ap₂ (λ (b m : ℕ). map f (range_with_len b m)) (let e : a ≡ a + 0 = omega arith in e) (let e : 0 + n ≡ n = omega arith in e)
drop-map-range_with_len f a (suc k) n =
    ap (λ (m : ℕ). drop (suc k) (map f (range_with_len a m))) (let e : suc k + n ≡ suc (k + n) = omega arith in e)
    ∙ drop-map-range_with_len f (a + 1) k n
    ∙ ap (λ (b : ℕ). map f (range_with_len b n)) (let e : a + 1 + k ≡ a + suc k = omega arith in e)

-- What all frames that were put in and came out again are: those before a cut, and the others.
record AllOut {r after : Reception} {es : List Event} (run : Run r es after) (frames : List (List ℕ)) : Type 0 where
  none_waits : after.source.waiting ≡ []
  out : frames_taken run ≡ frames

all_out : {r after : Reception} {es : List Event} (run : Run r es after) (frames : List (List ℕ)) → r.source.waiting ≡ [] → accepted es ≡ frames
    → number_taken es ≡ length frames → AllOut run frames
all_out {r} {after} {es} run frames none accepted_are taken = record { none_waits = empty; out = out }
  where
    line : frames ≡ frames_taken run ++ after.source.waiting
    line = sym accepted_are ∙ ap (λ w. w ++ accepted es) (sym none) ∙ run_line run

    empty : after.source.waiting ≡ []
    empty = none_left after.source.waiting (omega (arith, ap length line, length-append (frames_taken run) after.source.waiting, run_number run, taken))

    out : frames_taken run ≡ frames
    out = sym (append-nil (frames_taken run)) ∙ ap (λ w. frames_taken run ++ w) (sym empty) ∙ sym line

module _ (size patience start wrong_bytes count : ℕ) (bytes : List ℕ) (passage : Passage) (passed : Passed size patience start bytes passage)
    (as_sent : IsStretch size start wrong_bytes bytes)
    (counted : count ≡ count_from size start bytes)
    (within : start ≤ length bytes / (24 * size))
    (smooth_before : passage.before.smooth ≡ true)
    (smooth_behind : passage.behind.smooth ≡ true) where
  abbrev source : Source
  source = queue_source (24 * size) [] 32

  abbrev cut : Reception
  cut = passed.cut

  abbrev past : List Event
  past = patience_set patience (Ok tt) ∷ passed.earlier.events

  abbrev future : List Event
  future = passed.later.events

  abbrev earlier : Run (new_receiver size source) past cut
  earlier = goes_on passed.set passed.earlier.run

  abbrev later : Run cut future passed.after
  later = passed.later.run

  abbrev frames : ℕ
  frames = length bytes / (24 * size)

  abbrev all_frames : List (List ℕ)
  all_frames = whole_frames (24 * size) bytes

  before : Smooth (frames_from size bytes 0 start) nothing_heard passage.before passed.earlier.events
  before = passed.earlier.is_smooth smooth_before

  behind : Smooth (frames_from size bytes start (frames - start)) nothing_heard passage.behind future
  behind = passed.later.is_smooth smooth_behind

  early_frames : frames_from size bytes 0 start ≡ take start all_frames
  early_frames = sym (take-map-range_with_len (frame_at (24 * size) bytes) 0 frames start within)

  late_frames : frames_from size bytes start (frames - start) ≡ drop start all_frames
  late_frames =
      ap (λ (a : ℕ). map (frame_at (24 * size) bytes) (range_with_len a (frames - start))) (let e : start ≡ 0 + start = omega arith in e)
      ∙ sym (drop-map-range_with_len (frame_at (24 * size) bytes) 0 start (frames - start))
      ∙ ap (λ (n : ℕ). drop start (map (frame_at (24 * size) bytes) (range_with_len 0 n))) (let e : start + (frames - start) ≡ frames = omega (arith, within) in e)

  out_before : AllOut earlier (frames_from size bytes 0 start)
  out_before = all_out earlier (frames_from size bytes 0 start) refl before.accepted_are (omega (arith, before.taken))

  out_behind : AllOut later (frames_from size bytes start (frames - start))
  out_behind = all_out later (frames_from size bytes start (frames - start)) out_before.none_waits behind.accepted_are behind.taken

  line_is : line_of cut future ≡ drop start all_frames ++ []
  line_is = ap₂ (λ (w a : List (List ℕ)). w ++ a) out_before.none_waits (behind.accepted_are ∙ late_frames) ∙ sym (append-nil (drop start all_frames))

  old_long : length (frames_taken earlier) ≡ start
  old_long = ap length out_before.out ∙ length-map-range_with_len (frame_at (24 * size) bytes) 0 start

  all_taken : all_frames ++ [] ≡ (frames_taken earlier ++ frames_taken later) ++ []
  all_taken =
      ap (λ l. l ++ [])
      (sym (take-append-drop start all_frames) ∙ ap₂ (λ (l m : List (List ℕ)). l ++ m) (sym (out_before.out ∙ early_frames)) (sym (out_behind.out ∙ late_frames)))

  abbrev only : List SuperFrame
  only = sent size start wrong_bytes bytes as_sent

  only_counted : length only ≡ count
  only_counted = sent_counted size start wrong_bytes bytes as_sent ∙ sym counted

  supposed : Supposed size source past future only
  supposed = record {
    cut = cut;
    after = passed.after;
    earlier = earlier;
    later = later;
    stretch = stretch size start wrong_bytes bytes as_sent (line_of cut future) [] line_is;
    undisturbed = undisturbed (length only) future behind.calm;
  }

  none_legible : NoOtherLegible size count (frames_taken earlier) (frames_taken later)
  none_legible =
      subst (λ (n : ℕ). NoOtherLegible size n (frames_taken earlier) (frames_taken later)) (sym counted)
      (no_other_legible size start wrong_bytes bytes as_sent (frames_taken earlier) (frames_taken later) [] [] all_taken old_long)

  patience_is : patience_after 3 (past ++ until_taken future) ≡ patience
  patience_is =
      patience_after-append 3 past (until_taken future)
      ∙ calm_patience (until_taken future) (patience_after 3 past) (calm_until future behind.calm)
      ∙ calm_patience passed.earlier.events patience before.calm

  back : {i : ℕ} {w : SuperFrame} → At only i w → patience - 1 ≤ i → DeliveredIn size (five_frames size bytes (start + 5 * i)) future i w
  unfolding supposed
  back {i} {w} a enough =
      let s = sent_each size start wrong_bytes bytes as_sent i w a in
      let all : number_taken future ≡ frames - start = behind.taken ∙ length-map-range_with_len (frame_at (24 * size) bytes) start (frames - start) in
      let t = taking future (5 * i + 4) (omega (arith, s.below, all)) in
      record {
        before = t.before;
        later = t.later;
        e = t.e;
        among = t.among;
        taken = t.taken;
        fifth = t.place;
        as_written =
            subst (λ five. AsWritten size five w t.e) (own_five size start wrong_bytes bytes as_sent (line_of cut future) [] line_is i s.below)
            ((back_after_bad_reception size source past future only supposed
            (subst (λ (n : ℕ). NoOtherLegible size n (frames_taken earlier) (frames_taken later)) (sym only_counted) none_legible)
            t.before t.later t.e t.among t.taken (omega (arith, t.place, s.below, counted, only_counted))).none_lost i w a t.place (omega (arith, patience_is, enough)));
      }

  pub loses_and_is_back : passage.cut.mode ≡ Locked → 0 < passage.cut.held → passage.behind.deliveries + (patience - 1) ≡ count
      → passage.behind.deliveries < 2 ^ 64 - 1 → LosesAndIsBack size patience start wrong_bytes count bytes
  unfolding supposed
  loses_and_is_back locked held lost below = record {
    past = past;
    future = future;
    put_in_before = before.accepted_are ∙ early_frames;
    put_in_behind = behind.accepted_are ∙ late_frames;
    sent = only;
    counted = only_counted;
    in_place = in_place;
    supposed = supposed;
    no_other_legible = none_legible;
    locked = sym (ap (λ r. r.mode) passed.told) ∙ locked;
    amid = omega (arith, held, ap (λ r. r.held) passed.told);
    none_waits = out_before.none_waits;
    patience_is = patience_is;
    back = back;
    lost = omega (arith, lost, behind.deliveries below);
  }
    where
      in_place : {i : ℕ} {w : SuperFrame} → At only i w → wrong (five_frames size bytes (start + 5 * i)) w.block ≡ wrong_bytes
      in_place {i} {w} a = (sent_each size start wrong_bytes bytes as_sent i w a).counted

same_report : {told other : Report} → reported told ≡ reported other → told ≡ other
same_report same = cc

-- a report tells where the receiver stands
report_is : {r after : Reception} {e : Event} (told : Report) → Rule r e after → e ≡ reported told → told ≡ report_of r
report_is told (pull_refused _) same = cc
report_is told (nothing_waits _ _) same = cc
report_is told (gathers _ _ _) same = cc
report_is told (finds _ _ _ _ _ _) same = cc
report_is told (passes_by _ _ _ _ _) same = cc
report_is told (follows _ _ _ _ _) same = cc
report_is told (misses_one _ _ _ _ _ _) same = cc
report_is told (loses_lock _ _ _ _ _ _) same = cc
report_is told (passes_on _) same = cc
report_is told restarts same = cc
report_is told (sets_patience _) same = cc
report_is told (keeps_patience _) same = cc
report_is told reports same = sym (same_report same)

pub report_told : {r after : Reception} {told : Report} → Rule r (reported told) after → told ≡ report_of r
report_told {told = told} rule = report_is told rule refl
