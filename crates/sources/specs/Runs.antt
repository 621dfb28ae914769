-- What the calls of a source do together, whichever they are and in whatever order.
use Rattle.std.specs.Prelude.{◌≡◌, ℕ, ◌+◌, true, false, List, [], ◌∷◌, ◌++◌, length, Ok, Err, Result}
use Rattle.std.specs.List.{flat_map}
use Rattle.gf.specs.declared.refusal.Refusal.{Refusal}
use Rattle.sources.specs.declared.source.Next.{Next}
use Rattle.sources.specs.declared.source.Next.TheVariants.{Frame, NothingWaiting}
use Rattle.sources.specs.Sources.{Source, FramesFit, TakesNext, Offers}

-- A call and its answer: the next frame was asked for, with what the buffer held when it was lent and holds now; or a frame was offered.
pub data Call : Type 0 where
  asked : List ℕ → List ℕ → Result Next Refusal → Call
  offered : List ℕ → Result Unit Refusal → Call

-- what a call may do to a source
abbrev pub Step : Source → Call → Source → Type 0
Step s (asked lent filled answer) after = TakesNext s lent after filled answer
Step s (offered frame answer) after = Offers s frame after answer

-- calls one after another
abbrev pub Run : Source → List Call → Source → Type 0
Run s [] after = after ≡ s
Run s (call ∷ calls) after = (between : Source) × Step s call between × Run between calls after

-- the frame that a call took out, if it did
abbrev pub taken_out : Call → List (List ℕ)
taken_out (asked lent filled (Ok Frame)) = filled ∷ []
taken_out (asked lent filled (Ok NothingWaiting)) = []
taken_out (asked lent filled (Err refusal)) = []
taken_out (offered frame answer) = []

-- the frame that a call put in, if it did
abbrev pub put_in : Call → List (List ℕ)
put_in (asked lent filled answer) = []
put_in (offered frame (Ok _)) = frame ∷ []
put_in (offered frame (Err refusal)) = []

-- What calls have done together.
pub record Accounts (s : Source) (calls : List Call) (after : Source) : Type 0 where
  -- The frames that waited, then those that were put in, are those that were taken out, then those that wait now.
  pub frames : s.waiting ++ flat_map put_in calls ≡ flat_map taken_out calls ++ after.waiting
  -- Where places are given back, there are as many places as there were, with a frame or free; else each frame that is put in uses one up.
  pub places_kept : s.gives_back ≡ true → length after.waiting + after.free ≡ length s.waiting + s.free
  pub places_used : s.gives_back ≡ false → after.free + length (flat_map put_in calls) ≡ s.free
  -- These stay.
  pub frame_length : after.frame_length ≡ s.frame_length
  pub gives_back : after.gives_back ≡ s.gives_back

-- Frames come out in the order in which they went in, none is lost, and none comes twice.
abbrev pub FirstInFirstOut : Type 0
FirstInFirstOut = (s : Source) (calls : List Call) (after : Source) → Run s calls after → Accounts s calls after

-- The rules of a source leave each call one answer, and one source and buffer after it: never none, and never two. The frames that wait
-- keep their length, and so does the buffer.
pub record Determined : Type 0 where
  pub next_exists : (s : Source) (lent : List ℕ) → FramesFit s
      → (after : Source) × (filled : List ℕ) × (answer : Result Next Refusal) × TakesNext s lent after filled answer
      × FramesFit after × (length filled ≡ length lent)
  pub next_unique : (s : Source) (lent : List ℕ) (after after′ : Source) (filled filled′ : List ℕ) (answer answer′ : Result Next Refusal)
      → TakesNext s lent after filled answer → TakesNext s lent after′ filled′ answer′
      → (after ≡ after′) × (filled ≡ filled′) × (answer ≡ answer′)
  pub offer_exists : (s : Source) (frame : List ℕ) → FramesFit s
      → (after : Source) × (answer : Result Unit Refusal) × Offers s frame after answer × FramesFit after
  pub offer_unique : (s : Source) (frame : List ℕ) (after after′ : Source) (answer answer′ : Result Unit Refusal)
      → Offers s frame after answer → Offers s frame after′ answer′ → (after ≡ after′) × (answer ≡ answer′)
