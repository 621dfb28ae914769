-- A recording whose super frames come with few bytes wrong, and of which no other five frames are legible, is an instance of the laws.
use Rattle.std.proofs.Common.{◌≡◌, ℕ, zero, suc, ◌+◌, ◌-◌, ◌*◌, ◌/◌, ◌<◌, ◌≤◌, true, List, [], ◌∷◌, ◌++◌, length, drop, length-append, length-drop, sym, refl, ap, ◌∙◌, subst, inl, arith}
use Rattle.std.proofs.lemmas.List.{drop-drop}
use Rattle.std.proofs.lemmas.List.FromFn.{length-map-range_with_len}
use Rattle.std.specs.List.{concat}
use Rattle.interleaver.specs.Rows.{wrong}
use Rattle.sources.specs.Sources.{Source}
use Rattle.sources.specs.Frames.{frame_at, whole_frames}
use Rattle.sources.specs.Recordings.{recording_source}
use Rattle.reception.specs.Receptions.{Reception, Event}
use Rattle.reception.specs.Blocks.{IsLegible, SuperFrame, Carries}
use Rattle.reception.specs.Runs.{Run, ends, takes, number_taken, frames_taken, accepted, patience_after, until_taken}
use Rattle.reception.specs.Recovery.{At, here, there, line_of, five_at, Stretch, Undisturbed, FifthOf, NoOtherLegible, AsWritten, Keeps, Supposed}
use Rattle.reception.specs.Service.{NoFalseBoundary}
use Rattle.reception.proofs.Steps.{run_line}
use Rattle.reception.proofs.Recovering.{back_after_bad_reception}
use Rattle.reception.proofs.HuntingLaw.{nothing_lost_while_hunting}
use Rattle.stretches.specs.Instances.{five_frames, IsStretch, count_from, receiver_over, Instance}
use Rattle.stretches.proofs.Judging.{none_wrong}
use Rattle.stretches.proofs.Lines.{five_of_line, five_of_more, five_taken}

-- Of a list of so many super frames each has, with its number, this property.
record Chosen (P : ℕ → SuperFrame → Type 0) (n : ℕ) : Type 0 where
  list : List SuperFrame
  counted : length list ≡ n
  each : (i : ℕ) (w : SuperFrame) → At list i w → P i w

none_there : {A : Type 0} {i : ℕ} {w : SuperFrame} → At [] i w → A
none_there a = elim a [ ]

each_more : (P : ℕ → SuperFrame → Type 0) {x w : SuperFrame} {xs : List SuperFrame} {i : ℕ} → At (x ∷ xs) i w → P 0 x
    → ((j : ℕ) (v : SuperFrame) → At xs j v → P (suc j) v) → P i w
each_more P here first others = first
each_more P (there {x = x} {i = i} a) first others = others i x a

choose : (n : ℕ) (P : ℕ → SuperFrame → Type 0) → ((i : ℕ) → i < n → (w : SuperFrame) × P i w) → Chosen P n
choose zero P some = record { list = []; counted = refl; each = λ i w a. none_there a }
choose (suc n) P some =
    let first = some 0 (omega arith) in
    let others = choose n (λ i w. P (suc i) w) (λ i h. some (suc i) (omega arith)) in
    record { list = first.0 ∷ others.list; counted = ap suc others.counted; each = λ i w a. each_more P a first.1 others.each }

module _ (size start wrong_bytes : ℕ) (bytes : List ℕ) (as_sent : IsStretch size start wrong_bytes bytes) where
  abbrev all_frames : List (List ℕ)
  all_frames = whole_frames (24 * size) bytes

  count_all : length all_frames ≡ length bytes / (24 * size)
  count_all = length-map-range_with_len (frame_at (24 * size) bytes) 0 (length bytes / (24 * size))

  abbrev count : ℕ
  count = count_from size start bytes

  -- super frame i of the stretch, as it was written
  pub record Stands (i : ℕ) (w : SuperFrame) : Type 0 where
    pub below : i < count
    pub carries : Carries size (five_frames size bytes (start + 5 * i)) w
    pub counted : wrong (five_frames size bytes (start + 5 * i)) w.block ≡ wrong_bytes

  stands : (i : ℕ) → i < count → (w : SuperFrame) × Stands i w
  stands i h =
      let c = (as_sent (start + 5 * i) (omega arith)).begins (i, refl) in
      (c.written, record { below = h; carries = c.carries; counted = c.counted })

  chosen : Chosen Stands count
  chosen = choose count Stands stands

  -- the super frames that were sent
  pub sent : List SuperFrame
  sent = chosen.list

  pub sent_counted : length sent ≡ count
  unfolding sent
  sent_counted = chosen.counted

  pub sent_each : (i : ℕ) (w : SuperFrame) → At sent i w → Stands i w
  unfolding sent
  sent_each = chosen.each

  -- In a line that begins with the frames from `start` on, five are the super frame's block.
  pub own_five : (line more : List (List ℕ)) → line ≡ drop start all_frames ++ more → (i : ℕ) → i < count
      → five_at line i ≡ five_frames size bytes (start + 5 * i)
  own_five line more line_is i h =
      ap (λ (l : List (List ℕ)). five_at l i) line_is
      ∙ ap concat (five_of_more (drop start all_frames) more (5 * i) (omega (arith, length-drop start all_frames, count_all, h)))
      ∙ ap (λ (l : List (List ℕ)). five_at l 0) (drop-drop (5 * i) start all_frames)
      ∙ five_of_line size (start + 5 * i) bytes (omega (arith, h))

  pub stretch : (line more : List (List ℕ)) → line ≡ drop start all_frames ++ more → Stretch size line sent
  stretch line more line_is = record {
    long_enough = omega (arith, ap length line_is, length-append (drop start all_frames) more, length-drop start all_frames, count_all, sent_counted);
    carried = carried;
  }
    where
      carried : {i : ℕ} {w : SuperFrame} → At sent i w → Carries size (five_at line i) w
      carried {i} {w} a =
          let s = sent_each i w a in
          subst (λ five. Carries size five w) (sym (own_five line more line_is i s.below)) s.carries

  pub no_other_legible : (old new rest more : List (List ℕ)) → all_frames ++ more ≡ (old ++ new) ++ rest → length old ≡ start
      → NoOtherLegible size count old new
  no_other_legible old new rest more line old_long older five newer place same long last inside other legible =
      let first : length older + 5 ≡ start + (place + 1) = omega (arith, long, last, length-append older five, old_long) in
      let there : length older + 5 ≤ length bytes / (24 * size) = omega arith in
      let is : concat five ≡ five_frames size bytes (length older) =
      ap concat (five_taken older five newer rest all_frames more (line ∙ ap (λ l. l ++ rest) same) long (omega (arith, count_all)))
      ∙ five_of_line size (length older) bytes there in
      (as_sent (length older) there).between (λ b. other b.0 (omega (arith, b.1))) (omega arith) (subst (IsLegible size) is legible)

-- with nothing before and no byte wrong
module _ (size : ℕ) (bytes : List ℕ) (as_sent : IsStretch size 0 0 bytes) where
  abbrev only : List SuperFrame
  only = sent size 0 0 bytes as_sent

  abbrev all_count : ℕ
  all_count = count_from size 0 bytes

  abbrev new : Reception
  new = receiver_over size bytes

  abbrev source : Source
  source = recording_source (24 * size) bytes

  waits : (events : List Event) → line_of new events ≡ drop 0 (whole_frames (24 * size) bytes) ++ accepted events
  waits events = refl

  in_place : {i : ℕ} {w : SuperFrame} → At only i w → w.block ≡ five_frames size bytes (5 * i)
  in_place {i} {w} a =
      let s = sent_each size 0 0 bytes as_sent i w a in
      none_wrong size (five_frames size bytes (0 + 5 * i)) (record { written = w; carries = s.carries; counted = s.counted })
      ∙ ap (five_frames size bytes) (let e : 0 + 5 * i ≡ 5 * i = omega arith in e)

  none_legible : {events : List Event} {after : Reception} (run : Run new events after) → NoOtherLegible size all_count [] (frames_taken run)
  none_legible {events} {after} run =
      no_other_legible size 0 0 bytes as_sent [] (frames_taken run) after.source.waiting (accepted events) (run_line run) refl

  -- with nothing before the cut, five frames are taken only with the fifth of the stretch
  no_false_boundary : {events : List Event} {after : Reception} (run : Run new events after) → NoFalseBoundary size [] (frames_taken run)
  no_false_boundary run older five newer place same long last inside found = omega (arith, long, last, length-append older five)

  received : {events : List Event} {after : Reception} → Run new events after → Undisturbed all_count events → Supposed size source [] events only
  received {events} {after} run calm = record {
    cut = new;
    after = after;
    earlier = ends;
    later = run;
    stretch = stretch size 0 0 bytes as_sent (line_of new events) (accepted events) (waits events);
    undisturbed = subst (λ n. Undisturbed n events) (sym (sent_counted size 0 0 bytes as_sent)) calm;
  }

  back : {events : List Event} {after : Reception} → Run new events after → Undisturbed all_count events
      → (before later : List Event) (e : Event) → events ≡ before ++ e ∷ later → takes e ≡ true → number_taken before < 5 * all_count
      → Keeps size (patience_after 3 (until_taken events) - 1) (line_of new events) only (number_taken before) e
  unfolding received
  back {events} {after} run calm before later e eq t inside =
      back_after_bad_reception size source [] events only (received run calm)
      (subst (λ n. NoOtherLegible size n [] (frames_taken run)) (sym (sent_counted size 0 0 bytes as_sent)) (none_legible run))
      before later e eq t (omega (arith, sent_counted size 0 0 bytes as_sent))

  delivered : {events : List Event} {after : Reception} → Run new events after → Undisturbed all_count events
      → (before later : List Event) (e : Event) → events ≡ before ++ e ∷ later → takes e ≡ true
      → {i : ℕ} {w : SuperFrame} → At only i w → FifthOf i (number_taken before) → AsWritten size w.block w e
  unfolding received
  delivered {events} {after} run calm before later e eq t {i} {w} a fifth =
      let s = sent_each size 0 0 bytes as_sent i w a in
      subst (λ five. AsWritten size five w e)
      (own_five size 0 0 bytes as_sent (line_of new events) (accepted events) (waits events) i s.below
      ∙ ap (five_frames size bytes) (let e : 0 + 5 * i ≡ 5 * i = omega arith in e) ∙ sym (in_place a))
      ((nothing_lost_while_hunting size source [] events only (received run calm) (inl refl) (no_false_boundary run) before later e eq t
      (omega (arith, sent_counted size 0 0 bytes as_sent, s.below))).none_lost i w a fifth (omega arith))

  pub instance : Instance size all_count bytes
  instance = record {
    sent = only;
    counted = sent_counted size 0 0 bytes as_sent;
    in_place = in_place;
    stretch = λ events. stretch size 0 0 bytes as_sent (line_of new events) (accepted events) (waits events);
    no_other_legible = none_legible;
    no_false_boundary = no_false_boundary;
    back = back;
    delivered = delivered;
  }
