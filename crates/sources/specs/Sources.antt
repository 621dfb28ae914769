-- What a frame source means, and what its calls answer.
use Rattle.std.specs.Prelude.{◌≡◌, ℕ, ◌+◌, ◌-◌, ◌*◌, ◌≤◌, ◌⊎◌, Bool, cond, not, List, [], ◌∷◌, ◌++◌, length, drop, Ok, Err, Result, ◌==◌}
use Rattle.std.specs.List.{All}
use Rattle.gf.specs.declared.refusal.Refusal.{Refusal}
use Rattle.gf.specs.declared.refusal.Refusal.TheVariants.{FrameLength, Full}
use Rattle.gf.specs.Refusals.{Performs}
use Rattle.sources.specs.Frames.{with_frame}
use Rattle.sources.specs.declared.source.Next.{Next}
use Rattle.sources.specs.declared.source.Next.TheVariants.{Frame, NothingWaiting}

-- A source, as its callers know it. No call changes its frame length, nor whether it gives places back.
pub record Source : Type 0 where
  -- bytes in each frame
  pub frame_length : ℕ
  -- the frames that wait; the one in front has waited longest
  pub waiting : List (List ℕ)
  -- how many more frames find a place
  pub free : ℕ
  -- whether a frame that is taken gives its place back
  pub gives_back : Bool

-- Each frame that waits has the frame length.
abbrev pub FramesFit : Source → Type 0
FramesFit s = All (λ frame. length frame ≡ s.frame_length) s.waiting

-- the source once the frame in front is taken; one more place is free where it gives places back
abbrev pub without_first : Source → Source
without_first s = record {
  frame_length = s.frame_length;
  waiting = drop 1 s.waiting;
  free = cond s.gives_back (s.free + 1) s.free;
  gives_back = s.gives_back;
}

-- the source with one more frame behind the others, and one place fewer free
abbrev pub with_last : Source → List ℕ → Source
with_last s frame = record {
  frame_length = s.frame_length;
  waiting = s.waiting ++ frame ∷ [];
  free = s.free - 1;
  gives_back = s.gives_back;
}

-- the refusal of every call that is lent the bytes of one frame: they have not its length; then others
abbrev pub of_frame : ℕ → List ℕ → List (Bool × Refusal) → List (Bool × Refusal)
of_frame frame_length bytes others = (not (length bytes == frame_length), FrameLength) ∷ others

-- A frame was found: it was in front, the buffer is filled with it, and it is taken away. Or none was: none waits, and nothing is changed.
abbrev pub Finds : Source → List ℕ → Source → List ℕ → Next → Type 0
Finds s lent after filled Frame = (s.waiting ≡ filled ∷ (without_first s).waiting) × (after ≡ without_first s)
Finds s lent after filled NothingWaiting = (s.waiting ≡ []) × (after ≡ s) × (filled ≡ lent)

-- The next frame is taken, if there is one; or the buffer that is lent for it has another length, and nothing is changed.
abbrev pub TakesNext : Source → List ℕ → Source → List ℕ → Result Next Refusal → Type 0
TakesNext s lent after filled answer =
    Performs (of_frame s.frame_length lent []) (Finds s lent after filled) ((after ≡ s) × (filled ≡ lent)) answer

-- the refusals of offering a frame, each with its condition: it has another length; or no place is free
abbrev pub offer_complaints : Source → List ℕ → List (Bool × Refusal)
offer_complaints s frame = of_frame s.frame_length frame ((s.free == 0, Full) ∷ [])

-- The frame waits behind the others; or the first refusal is answered, and nothing is changed.
abbrev pub Offers : Source → List ℕ → Source → Result Unit Refusal → Type 0
Offers s frame after answer = Performs (offer_complaints s frame) (λ _. after ≡ with_last s frame) (after ≡ s) answer

-- The source itself, as clauses see it, is as it was, its lent bytes included, unless a frame was found.
abbrev pub SameUnlessFound : {A : Type 0} → A → A → Result Next Refusal → Type 0
SameUnlessFound before after (Ok Frame) = Unit {0}
SameUnlessFound before after (Ok NothingWaiting) = after ≡ before
SameUnlessFound before after (Err refusal) = after ≡ before

-- The source itself, as clauses see it, is as it was, its lent bytes included, unless a frame was taken in.
abbrev pub SameUnlessTakenIn : {A : Type 0} → A → A → Result Unit Refusal → Type 0
SameUnlessTakenIn before after (Ok _) = Unit {0}
SameUnlessTakenIn before after (Err refusal) = after ≡ before

-- Of these bytes none is written, or only the frame in one place. A place is as long as the frame, and the first begins at the first byte.
abbrev pub WritesOnlyFrame : List ℕ → List ℕ → List ℕ → Type 0
WritesOnlyFrame frame before after =
    (after ≡ before) ⊎ ((place : ℕ) × (place * length frame + length frame ≤ length before) × (after ≡ with_frame place frame before))
