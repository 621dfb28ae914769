-- What a receiver is to its callers, what it is asked, and what it answers.
use Rattle.std.specs.Prelude.{◌≡◌, ℕ, ◌*◌, Bool, not, ◌&&◌, List, [], ◌∷◌, length, Result, Ok, Err, ◌==◌, nat_le}
use Rattle.gf.specs.declared.refusal.Refusal.{Refusal}
use Rattle.gf.specs.declared.refusal.Refusal.TheVariants.{FrameLength, Patience}
use Rattle.gf.specs.Refusals.{of_size}
use Rattle.block.specs.Headers.{of_block}
use Rattle.sources.specs.Sources.{Source, without_first}
use Rattle.reception.specs.declared.mode.Mode.{Mode}
use Rattle.reception.specs.declared.mode.Mode.TheVariants.{Hunting}
use Rattle.reception.specs.declared.answers.Pulled.{Pulled}
use Rattle.reception.specs.declared.answers.Pulled.TheVariants.{NothingWaiting}
use Rattle.reception.specs.declared.answers.Report.{Report}

-- A receiver between two calls, as its rules know it.
pub record Reception : Type 0 where
  -- where its frames come from
  pub source : Source
  -- the subchannel index
  pub size : ℕ
  -- whether it looks for the boundary of super frames, or follows it
  pub mode : Mode
  -- the frames that it took and keeps, the oldest first
  pub held : List (List ℕ)
  -- blocks missed in a row
  pub misses : ℕ
  -- how many of them end a lock
  pub patience : ℕ

-- A receiver between two calls with its source itself, lent bytes and all. Its other parts are as above.
pub record ReceiverOver (S : Type 0) : Type 0 where
  pub source : S
  pub size : ℕ
  pub mode : Mode
  pub held : List (List ℕ)
  pub misses : ℕ
  pub patience : ℕ

-- what its rules know of it
abbrev pub reception : {S : Type 0} → (S → Source) → ReceiverOver S → Reception
reception meaning r =
    record { source = meaning r.source; size = r.size; mode = r.mode; held = r.held; misses = r.misses; patience = r.patience }

-- a new receiver hunts, has patience 3, no misses, and holds no frame
abbrev pub new_receiver : ℕ → Source → Reception
new_receiver size source = record { source = source; size = size; mode = Hunting; held = []; misses = 0; patience = 3 }

-- the receiver once it took the frame in front: then its mode, the frames it holds, and its misses are these
abbrev pub taking : Reception → Mode → List (List ℕ) → ℕ → Reception
taking r mode held misses =
    record { source = without_first r.source; size = r.size; mode = mode; held = held; misses = misses; patience = r.patience }

-- what it tells of itself
abbrev pub report_of : Reception → Report
report_of r = record { mode = r.mode; held = length r.held; misses = r.misses; patience = r.patience }

-- the refusals of checking a receiver, each with its condition: the size; or the source's frames have not 24 bytes times the size
abbrev pub receiver_complaints : ℕ → Source → List (Bool × Refusal)
receiver_complaints size source = of_size size ((not (source.frame_length == 24 * size), FrameLength) ∷ [])

-- the refusals of a pull: as of checking the receiver, and between them that the buffer has not 120 bytes times the size
abbrev pub pull_complaints : Reception → List ℕ → List (Bool × Refusal)
pull_complaints r buffer = of_block r.size buffer ((not (r.source.frame_length == 24 * r.size), FrameLength) ∷ [])

-- the refusals of setting the patience, each with its condition
abbrev pub patience_complaints : ℕ → List (Bool × Refusal)
patience_complaints number = (not (nat_le 1 number && nat_le number 16), Patience) ∷ []

-- The source itself is as it was, its lent bytes included, unless a frame was taken.
abbrev pub SameUnlessTaken : {S : Type 0} → S → S → Result Pulled Refusal → Type 0
SameUnlessTaken before after (Ok NothingWaiting) = after ≡ before
SameUnlessTaken before after (Ok answer) = Unit {0}
SameUnlessTaken before after (Err refusal) = after ≡ before

-- What a receiver is asked.
pub data Asked : Type 0 where
  -- to take the next frame, with a buffer for a super frame's block
  pull : List ℕ → Asked
  -- to put a frame into its source
  offer : List ℕ → Asked
  -- to start over
  reset : Asked
  -- to end a lock after so many misses
  patience : ℕ → Asked
  -- to tell where it stands
  report : Asked

-- A call and its answer.
pub data Event : Type 0 where
  -- what the buffer held, the answer, and what it holds now
  pulled : List ℕ → Result Pulled Refusal → List ℕ → Event
  offered : List ℕ → Result Unit Refusal → Event
  restarted : Event
  patience_set : ℕ → Result Unit Refusal → Event
  reported : Report → Event

-- what was asked
abbrev pub asked_by : Event → Asked
asked_by (pulled lent answer left) = pull lent
asked_by (offered frame answer) = offer frame
asked_by restarted = reset
asked_by (patience_set number answer) = patience number
asked_by (reported told) = report
