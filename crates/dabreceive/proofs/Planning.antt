-- What calls ask while they are added one by one.
use Rattle.std.proofs.Common.{◌≡◌, ℕ, ◌+◌, ◌*◌, ◌<◌, List, [], ◌∷◌, ◌++◌, map, length, take, drop, sym, refl, ap, ap₂, ◌∙◌, arith}
use Rattle.std.proofs.Math.Nat.{div-eq_of_lt}
use Rattle.std.proofs.Math.Seq.{take-add, take-append_seam, drop-append_seam}
use Rattle.std.proofs.lemmas.List.{length-append, length-map, append_assoc, append-nil, map-append, drop-drop}
use Rattle.std.specs.List.{range_with_len, flat_map}
use Rattle.sources.specs.Frames.{frame_at, whole_frames}
use Rattle.sources.proofs.Frames.{more_frames}
use Rattle.reception.specs.declared.calls.Call.{Call}
use Rattle.dabreceive.specs.declared.plan.ScriptCalls.{ScriptCalls}
use Rattle.dabreceive.specs.Plans.{Question, question, pull, offer, replay_questions, frames_left, Adds}

-- no frame is whole in fewer bytes
pub no_frames : (frame_length : ℕ) (bytes : List ℕ) → length bytes < frame_length → whole_frames frame_length bytes ≡ []
no_frames frame_length bytes short =
    ap (λ (count : ℕ). map (frame_at frame_length bytes) (range_with_len 0 count)) (div-eq_of_lt short)

-- the first frame, and those behind it
pub frames_split : (frame_length : ℕ) (frame rest : List ℕ) → 0 < frame_length → length frame ≡ frame_length
    → whole_frames frame_length (frame ++ rest) ≡ frame ∷ whole_frames frame_length rest
frames_split frame_length frame rest some long =
    more_frames frame_length (frame ++ rest) some (omega (arith, long, length-append frame rest))
    ∙ ap₂ (λ (f : List ℕ) (r : List ℕ). f ∷ whole_frames frame_length r)
    (ap (λ (n : ℕ). take n (frame ++ rest)) (sym long) ∙ take-append_seam frame rest)
    (ap (λ (n : ℕ). drop n (frame ++ rest)) (sym long) ∙ drop-append_seam frame rest)

-- A frame is offered, and one is taken.
pub frame_asked : (size : ℕ) (total : List Question) (calls between after : List Call) (first second : Call) (bytes frame rest : List ℕ)
    → 0 < size → map question calls ++ replay_questions size bytes ≡ total
    → bytes ≡ frame ++ rest → length frame ≡ 24 * size
    → between ≡ calls ++ first ∷ [] → question first ≡ offer frame
    → after ≡ between ++ second ∷ [] → question second ≡ pull (120 * size)
    → map question after ++ replay_questions size rest ≡ total
frame_asked size total calls between after first second bytes frame rest some keeps bytes_are long between_is first_is after_is second_is =
    ap (λ (questions : List Question). questions ++ replay_questions size rest) asked
    ∙ append_assoc (map question calls) (offer frame ∷ pull (120 * size) ∷ []) (replay_questions size rest)
    ∙ ap (λ (questions : List Question). map question calls ++ questions) (sym more)
    ∙ keeps
  where
    asked : map question after ≡ map question calls ++ offer frame ∷ pull (120 * size) ∷ []
    asked =
        ap (map question) (after_is ∙ ap (λ (some : List Call). some ++ second ∷ []) between_is ∙ append_assoc calls (first ∷ []) (second ∷ []))
        ∙ map-append question calls (first ∷ second ∷ [])
        ∙ ap₂ (λ (a : Question) (b : Question). map question calls ++ a ∷ b ∷ []) first_is second_is

    more : replay_questions size bytes ≡ offer frame ∷ pull (120 * size) ∷ replay_questions size rest
    more =
        ap (replay_questions size) bytes_are
        ∙ ap (flat_map (λ (f : List ℕ). offer f ∷ pull (120 * size) ∷ [])) (frames_split (24 * size) frame rest (omega (arith, some)) long)

-- No whole frame is left.
pub all_asked : (size : ℕ) (total : List Question) (calls : List Call) (bytes : List ℕ) → map question calls ++ replay_questions size bytes ≡ total
    → length bytes < 24 * size → map question calls ≡ total
all_asked size total calls bytes keeps short =
    sym (append-nil (map question calls))
    ∙ ap (λ (frames : List (List ℕ)). map question calls ++ flat_map (λ (f : List ℕ). offer f ∷ pull (120 * size) ∷ []) frames) (sym (no_frames (24 * size) bytes short))
    ∙ keeps

-- The next frame is offered.
pub next_added : (s after : ScriptCalls) (frame : List ℕ) (call : Call) → 0 < s.size → after.size ≡ s.size
    → s.rest.now ≡ frame ++ after.rest.now → length frame ≡ 24 * s.size → after.calls.items ≡ s.calls.items ++ call ∷ [] → question call ≡ offer frame
    → Adds s (map offer (take 1 (frames_left s))) (drop 1 (frames_left s)) after
next_added s after frame call some size_is rest_is long calls_are call_is = record {
  size = size_is;
  asked =
      ap (map question) calls_are
      ∙ map-append question s.calls.items (call ∷ [])
      ∙ ap (λ (q : Question). map question s.calls.items ++ q ∷ []) call_is
      ∙ ap (λ (frames : List (List ℕ)). map question s.calls.items ++ map offer (take 1 frames)) (sym more);
  left = ap (drop 1) (sym more);
}
  where
    more : frames_left s ≡ frame ∷ frames_left after
    more =
        ap (whole_frames (24 * s.size)) rest_is
        ∙ frames_split (24 * s.size) frame after.rest.now (omega (arith, some)) long
        ∙ ap (λ (n : ℕ). frame ∷ whole_frames (24 * n) after.rest.now) (sym size_is)

-- No frame is left.
pub none_added : (s : ScriptCalls) → frames_left s ≡ [] → Adds s (map offer (take 1 (frames_left s))) (drop 1 (frames_left s)) s
none_added s none = record {
  size = refl;
  asked =
      sym (append-nil (map question s.calls.items))
      ∙ ap (λ (frames : List (List ℕ)). map question s.calls.items ++ map offer (take 1 frames)) (sym none);
  left = none ∙ ap (drop 1) (sym none);
}

-- so many of these frames are offered
abbrev pub AddsFrames : ScriptCalls → List (List ℕ) → ℕ → ScriptCalls → Type 0
AddsFrames s frames count after = Adds s (map offer (take count frames)) (drop count frames) after

pub one_more : (s between after : ScriptCalls) (frames : List (List ℕ)) (count : ℕ) → AddsFrames s frames count between
    → AddsFrames between (frames_left between) 1 after → AddsFrames s frames (count + 1) after
one_more s between after frames count before next = record {
  size = next.size ∙ before.size;
  asked =
      next.asked
      ∙ ap₂ (λ (front : List Question) (one : List (List ℕ)). front ++ map offer (take 1 one)) before.asked before.left
      ∙ append_assoc (map question s.calls.items) (map offer (take count frames)) (map offer (take 1 (drop count frames)))
      ∙ ap (λ (back : List Question). map question s.calls.items ++ back) (sym (map-append offer (take count frames) (take 1 (drop count frames))))
      ∙ ap (λ (some : List (List ℕ)). map question s.calls.items ++ map offer some) (sym (take-add count 1 frames));
  left = next.left ∙ ap (drop 1) before.left ∙ drop-drop 1 count frames;
}

-- Calls that are added make more of them.
pub added_length : (s : ScriptCalls) (questions : List Question) (frames : List (List ℕ)) (after : ScriptCalls) → Adds s questions frames after
    → length after.calls.items ≡ length s.calls.items + length questions
added_length s questions frames after adds =
    sym (length-map after.calls.items question)
    ∙ ap length adds.asked
    ∙ length-append (map question s.calls.items) questions
    ∙ ap (λ (n : ℕ). n + length questions) (length-map s.calls.items question)
