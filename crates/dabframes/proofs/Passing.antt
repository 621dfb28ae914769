-- That handing in a frame keeps a passage steady, and how a passage begins.
use Rattle.std.proofs.Common.{◌≡◌, ℕ, ◌+◌, ◌*◌, ◌/◌, ◌^◌, ◌<◌, ◌≤◌, min, true, List, [], ◌∷◌, ◌++◌, map, length, get_or, take, drop, Ok, sym, ap, ap₂, ◌∙◌, subst, inl, inr, arith}
use Rattle.std.proofs.Math.Nat.{div-eq_of_lt}
use Rattle.std.proofs.lemmas.Bool.{cases_lt}
use Rattle.std.proofs.lemmas.List.{length-append}
use Rattle.std.proofs.lemmas.List.FromFn.{length-map-range_with_len}
use Rattle.std.specs.List.{range_with_len}
use Rattle.sources.specs.declared.source.Next.{Next}
use Rattle.sources.specs.declared.source.Next.TheVariants.{Frame}
use Rattle.sources.specs.Sources.{Source, without_first, with_last, TakesNext}
use Rattle.sources.specs.Frames.{frame_at, whole_frames}
use Rattle.sources.proofs.Frames.{more_frames}
use Rattle.sources.proofs.Ordering.{some_free}
use Rattle.sources.specs.Recordings.{recording_source, source_of_recording}
use Rattle.sources.specs.Queues.{source_of_queue}
use Rattle.dabframes.specs.declared.passage.Passage.{Passage}
use Rattle.dabframes.specs.steps.Passages.{to_come, held, accounted, Steady, Enqueues, HandsIn}

-- where a whole frame is there, the bytes hold one
whole_there : (frame_length : ℕ) (rest frame : List ℕ) (others : List (List ℕ)) → whole_frames frame_length rest ≡ frame ∷ others → frame_length ≤ length rest
whole_there frame_length rest frame others e = elim (cases_lt (length rest) frame_length) [
  | inl short ↦
      let none : whole_frames frame_length rest ≡ [] = ap (λ (count : ℕ). map (frame_at frame_length rest) (range_with_len 0 count)) (div-eq_of_lt short) in
      absurd (omega (arith, ap length (sym none ∙ e)))
  | inr long ↦ omega (arith, long)
]

-- The next frame of a recording.
record Given (frame_length : ℕ) (rest frame : List ℕ) (after : Source) : Type 0 where
  pub whole : frame_length ≤ length rest
  pub frame_is : frame ≡ take frame_length rest
  pub length_is : after.frame_length ≡ frame_length
  pub rest_is : after.waiting ≡ whole_frames frame_length (drop frame_length rest)
  pub fewer : length after.waiting + 1 ≡ length (whole_frames frame_length rest)

given : (frame_length : ℕ) (rest lent frame : List ℕ) (recording after : Source) → 0 < frame_length → recording.frame_length ≡ frame_length
    → recording.waiting ≡ whole_frames frame_length rest → TakesNext recording lent after frame (Ok Frame) → Given frame_length rest frame after
given frame_length rest lent frame recording after some long e step = record {
  whole = whole;
  frame_is = ap (λ frames. get_or frames 0 []) heads;
  length_is = ap (λ s. s.frame_length) step.1.1 ∙ long;
  rest_is = ap (λ s. s.waiting) step.1.1 ∙ ap (drop 1) (e ∙ more);
  fewer = omega (arith, ap (λ s. length s.waiting) step.1.1, ap length step.1.0, ap length e);
}
  where
    whole : frame_length ≤ length rest
    whole = whole_there frame_length rest frame (without_first recording).waiting (sym e ∙ step.1.0)

    more : whole_frames frame_length rest ≡ take frame_length rest ∷ whole_frames frame_length (drop frame_length rest)
    more = more_frames frame_length rest some whole

    heads : frame ∷ (without_first recording).waiting ≡ take frame_length rest ∷ whole_frames frame_length (drop frame_length rest)
    heads = sym step.1.0 ∙ e ∙ more

-- a frame is handed in: the recording has given it, the same bytes are cut off, and it joins the queue or finds it full
module _ (frame_length : ℕ) (p : Passage) (steady : Steady frame_length p) (lent frame : List ℕ) (middle after : Passage)
    (found : Next) (found_is : found ≡ Frame)
    (step : TakesNext (source_of_recording p.recording) lent (source_of_recording middle.recording) frame (Ok found))
    (original : List ℕ) (cut : ℕ) (cut_is : cut ≡ min frame_length (length p.rest.now)) (original_is : original ≡ take cut p.rest.now)
    (rest_is : middle.rest.now ≡ drop cut p.rest.now) (queue_is : middle.queue ≡ p.queue) (held_is : held middle ≡ held p)
    (tally_is : middle.tally ≡ p.tally) (queues : Enqueues middle original frame after) where
  next : Given frame_length p.rest.now frame (source_of_recording middle.recording)
  next = given frame_length p.rest.now lent frame (source_of_recording p.recording) (source_of_recording middle.recording) steady.some steady.recording_length steady.rest_is
      (subst (λ (found : Next). TakesNext (source_of_recording p.recording) lent (source_of_recording middle.recording) frame (Ok found)) found_is step)

  whole_cut : cut ≡ frame_length
  whole_cut = omega (arith, cut_is, next.whole)

  frame_is : frame ≡ original
  frame_is = next.frame_is ∙ ap (λ (n : ℕ). take n p.rest.now) (sym whole_cut) ∙ sym original_is

  rest_after : after.rest.now ≡ drop frame_length p.rest.now
  rest_after = ap (λ r. r.now) queues.rest ∙ rest_is ∙ ap (λ (n : ℕ). drop n p.rest.now) whole_cut

  recording_after : source_of_recording after.recording ≡ source_of_recording middle.recording
  recording_after = ap source_of_recording queues.recording

  in_queue : (source_of_queue after.queue).waiting ≡ held after
      → (source_of_queue after.queue).frame_length ≡ frame_length → (source_of_queue after.queue).gives_back ≡ true
      → length (held after) + (source_of_queue after.queue).free ≡ 32 → Steady frame_length after
  in_queue waiting long gives places = record {
    some = steady.some;
    recording_length = ap (λ s. s.frame_length) recording_after ∙ next.length_is;
    queue_length = long;
    rest_is = ap (λ s. s.waiting) recording_after ∙ next.rest_is ∙ ap (whole_frames frame_length) (sym rest_after);
    waiting_is = waiting;
    gives_back = gives;
    places = places;
    agree = queues.differing ∙ ap (λ t. t.differing) tally_is ∙ steady.agree;
  }

  steady_after : Steady frame_length after
  steady_after = elim (queues.queue) [
    | inl joins ↦
        let put : source_of_queue after.queue ≡ with_last (source_of_queue middle.queue) frame = joins.0.1 in
        let same : source_of_queue middle.queue ≡ source_of_queue p.queue = ap source_of_queue queue_is in
        let now_held : held after ≡ held p ++ original ∷ [] = joins.1 ∙ ap (λ (w : List (List ℕ)). w ++ original ∷ []) held_is in
        in_queue
        (ap (λ s. s.waiting) put ∙ ap₂ (λ (w : List (List ℕ)) (f : List ℕ). w ++ f ∷ []) (ap (λ s. s.waiting) same ∙ steady.waiting_is) frame_is ∙ sym now_held)
        (ap (λ s. s.frame_length) put ∙ ap (λ s. s.frame_length) same ∙ steady.queue_length)
        (ap (λ s. s.gives_back) put ∙ ap (λ s. s.gives_back) same ∙ steady.gives_back)
        (omega (
          arith,
          ap (λ s. s.free) put,
          ap (λ s. s.free) same,
          steady.places,
          some_free (source_of_queue middle.queue) frame (source_of_queue after.queue) joins.0,
          ap length now_held,
          length-append (held p) (original ∷ []),
        ))
    | inr full ↦
        let same : source_of_queue after.queue ≡ source_of_queue p.queue = full.0.1 ∙ ap source_of_queue queue_is in
        let now_held : held after ≡ held p = full.1 ∙ held_is in
        in_queue (ap (λ s. s.waiting) same ∙ steady.waiting_is ∙ sym now_held) (ap (λ s. s.frame_length) same ∙ steady.queue_length)
        (ap (λ s. s.gives_back) same ∙ steady.gives_back) (omega (arith, ap (λ s. s.free) same, steady.places, ap length now_held))
  ]

  one_fewer : length (to_come after) + 1 ≡ length (to_come p)
  one_fewer = omega (arith, ap (λ s. length s.waiting) recording_after, next.fewer, ap length steady.rest_is)

  still_accounted : accounted p < 2 ^ 64 → accounted after ≡ accounted p
  still_accounted few = elim (queues.queue) [
    | inl joins ↦ omega (
      arith,
      one_fewer,
      queues.came_out,
      joins.2,
      ap (λ t. t.lost) tally_is,
      ap (λ t. t.came_out) tally_is,
      ap length joins.1,
      ap length held_is,
      length-append (held middle) (original ∷ []),
    )
    | inr full ↦
        let room : middle.tally.lost + 1 < 2 ^ 64 = omega (arith, few, one_fewer, ap (λ t. t.lost) tally_is) in omega (
          arith,
          one_fewer,
          queues.came_out,
          full.2 room,
          ap (λ t. t.lost) tally_is,
          ap (λ t. t.came_out) tally_is,
          ap length full.1,
          ap length held_is,
        )
  ]

  pub handed_in : accounted p < 2 ^ 64 → HandsIn frame_length 1 p after true
  handed_in few = record { steady = steady_after; accounted_is = still_accounted few; ends = one_fewer }

-- a passage as it begins
module _ (size : ℕ) (bytes : List ℕ) (p : Passage) (recording : source_of_recording p.recording ≡ recording_source (24 * size) bytes)
    (none_held : p.waiting.items ≡ []) (came_out : p.tally.came_out ≡ 0) (lost : p.tally.lost ≡ 0) where
  all_to_come : length (to_come p) ≡ length bytes / (24 * size)
  all_to_come =
      ap (λ s. length s.waiting) recording ∙ length-map-range_with_len (frame_at (24 * size) bytes) 0 (length bytes / (24 * size))

  pub all_accounted : accounted p ≡ length bytes / (24 * size)
  all_accounted = omega (arith, all_to_come, came_out, lost, ap (λ items. length (map (λ frame. frame.now) items)) none_held)
