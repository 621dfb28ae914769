-- Recordings that meet what the laws over runs suppose, and what the laws then say of every run over them.
use Rattle.std.specs.Prelude.{◌≡◌, ℕ, ◌+◌, ◌-◌, ◌*◌, ◌/◌, ◌<◌, ◌≤◌, true, List, [], ◌∷◌, ◌++◌, length, slice_range}
use Rattle.interleaver.specs.Rows.{wrong}
use Rattle.sources.specs.Recordings.{recording_source}
use Rattle.reception.specs.Receptions.{Reception, new_receiver, Event}
use Rattle.reception.specs.Blocks.{IsLegible, SuperFrame, Carries}
use Rattle.reception.specs.Runs.{Run, takes, number_taken, frames_taken, patience_after, until_taken}
use Rattle.reception.specs.Recovery.{At, line_of, Stretch, Undisturbed, FifthOf, NoOtherLegible, AsWritten, Keeps}
use Rattle.reception.specs.Service.{NoFalseBoundary}

-- A received block that carries a super frame as it was written, with so many bytes wrong in all and at most five in each row.
pub record Carried (size wrong_bytes : ℕ) (received : List ℕ) : Type 0 where
  pub written : SuperFrame
  pub carries : Carries size received written
  pub counted : wrong received written.block ≡ wrong_bytes

-- the bytes of five consecutive frames of a recording, the first of them frame `place`
abbrev pub five_frames : ℕ → List ℕ → ℕ → List ℕ
five_frames size bytes place = slice_range bytes (place * (24 * size)) (place * (24 * size) + 120 * size)

-- One of the super frames begins at `place` that stand one behind another from frame `start` on.
abbrev pub BeginsAt : ℕ → ℕ → Type 0
BeginsAt start place = (number : ℕ) × (place ≡ start + 5 * number)

-- Where a super frame begins, five frames carry it with so many bytes wrong; from any other place on, five frames are not legible if the last
-- of them belongs to the super frames.
pub record AsSent (size start wrong_bytes : ℕ) (bytes : List ℕ) (place : ℕ) : Type 0 where
  pub begins : BeginsAt start place → Carried size wrong_bytes (five_frames size bytes place)
  pub between : (BeginsAt start place → ⊥) → start < place + 5 → IsLegible size (five_frames size bytes place) → ⊥

-- so from every place on, as long as five whole frames follow
abbrev pub IsStretch : ℕ → ℕ → ℕ → List ℕ → Type 0
IsStretch size start wrong_bytes bytes = (place : ℕ) → place + 5 ≤ length bytes / (24 * size) → AsSent size start wrong_bytes bytes place

-- how many super frames a recording has from frame `start` on
abbrev pub count_from : ℕ → ℕ → List ℕ → ℕ
count_from size start bytes = (length bytes / (24 * size) - start) / 5

-- a new receiver over a recording
abbrev pub receiver_over : ℕ → List ℕ → Reception
receiver_over size bytes = new_receiver size (recording_source (24 * size) bytes)

-- The recording is an instance of the laws over runs: every run of a new receiver over it, whatever it is asked, meets what they suppose, with
-- nothing before the cut, if only no reset and no new patience come between its first frame and the last.
pub record Instance (size count : ℕ) (bytes : List ℕ) : Type 0 where
  -- so many super frames were sent, and stand in the recording as they were written
  pub sent : List SuperFrame
  pub counted : length sent ≡ count
  pub in_place : {i : ℕ} {written : SuperFrame} → At sent i written → written.block ≡ five_frames size bytes (5 * i)
  -- what the laws suppose
  pub stretch : (events : List Event) → Stretch size (line_of (receiver_over size bytes) events) sent
  pub no_other_legible : {events : List Event} {after : Reception} (run : Run (receiver_over size bytes) events after)
      → NoOtherLegible size count [] (frames_taken run)
  pub no_false_boundary : {events : List Event} {after : Reception} (run : Run (receiver_over size bytes) events after)
      → NoFalseBoundary size [] (frames_taken run)
  -- what the law of recovery then says
  pub back : {events : List Event} {after : Reception} → Run (receiver_over size bytes) events after → Undisturbed count events
      → (before later : List Event) (e : Event) → events ≡ before ++ e ∷ later → takes e ≡ true → number_taken before < 5 * count
      → Keeps size (patience_after 3 (until_taken events) - 1) (line_of (receiver_over size bytes) events) sent (number_taken before) e
  -- and the law of hunting: each super frame is delivered as it was written when its fifth frame is taken
  pub delivered : {events : List Event} {after : Reception} → Run (receiver_over size bytes) events after → Undisturbed count events
      → (before later : List Event) (e : Event) → events ≡ before ++ e ∷ later → takes e ≡ true
      → {i : ℕ} {written : SuperFrame} → At sent i written → FifthOf i (number_taken before) → AsWritten size written.block written e

-- A run of a new receiver over the recording, in which every whole frame is taken and nothing disturbs.
pub record WholeRun (size : ℕ) (bytes : List ℕ) : Type 0 where
  pub events : List Event
  pub after : Reception
  pub run : Run (receiver_over size bytes) events after
  pub all_taken : number_taken events ≡ length bytes / (24 * size)
  pub undisturbed : (super_frames : ℕ) → Undisturbed super_frames events

-- One of the events takes the fifth frame of super frame i, received as this block, and delivers it as it was written.
pub record DeliveredIn (size : ℕ) (received : List ℕ) (events : List Event) (i : ℕ) (written : SuperFrame) : Type 0 where
  pub before : List Event
  pub later : List Event
  pub e : Event
  pub among : events ≡ before ++ e ∷ later
  pub taken : takes e ≡ true
  pub fifth : FifthOf i (number_taken before)
  pub as_written : AsWritten size received written e

-- The recording is an instance of the laws, and there is a run over it in which every super frame is delivered as it was written.
pub record Demonstrated (size count : ℕ) (bytes : List ℕ) : Type 0 where
  pub instance : Instance size count bytes
  pub whole : WholeRun size bytes
  pub all : {i : ℕ} {written : SuperFrame} → At instance.sent i written → DeliveredIn size written.block whole.events i written
