-- Runs: calls and answers one after another, each by the rules; and what they tell of frames and of the patience.
use Rattle.std.specs.Prelude.{◌≡◌, ℕ, ◌+◌, Bool, true, false, cond, is_ok, List, [], ◌∷◌, ◌++◌, take, Ok}
use Rattle.reception.specs.declared.answers.Pulled.{Pulled}
use Rattle.reception.specs.declared.answers.Pulled.TheVariants.{NothingWaiting, Delivered}
use Rattle.reception.specs.Receptions.{Reception, Event, pulled, offered, restarted, patience_set}
use Rattle.reception.specs.Rules.{Rule}

-- From one receiver to another by these events.
pub data Run : Reception → List Event → Reception → Type 0 where
  ends : {r : Reception} → Run r [] r
  goes_on : {r between after : Reception} {e : Event} {es : List Event} → Rule r e between → Run between es after → Run r (e ∷ es) after

-- whether an answer says that a frame was taken
abbrev pub with_frame_taken : Pulled → Bool
with_frame_taken NothingWaiting = false
with_frame_taken answer = true

-- whether the event takes a frame
abbrev pub takes : Event → Bool
takes (pulled lent (Ok answer) left) = with_frame_taken answer
takes e = false

-- how many frames the events take
abbrev pub number_taken : List Event → ℕ
number_taken [] = 0
number_taken (e ∷ es) = cond (takes e) 1 0 + number_taken es

-- the frame that the event takes from the source, if it takes one: it was in front
abbrev pub frame_taken : Reception → Event → List (List ℕ)
frame_taken r e = cond (takes e) (take 1 r.source.waiting) []

-- the frames that a run takes, in order
abbrev pub frames_taken : {r after : Reception} {es : List Event} → Run r es after → List (List ℕ)
frames_taken ends = []
frames_taken (goes_on {r = r} {e = e} rule rest) = frame_taken r e ++ frames_taken rest

-- the frame that the event puts into the source, if it does
abbrev pub accepted_by : Event → List (List ℕ)
accepted_by (offered frame answer) = cond (is_ok answer) (frame ∷ []) []
accepted_by e = []

-- the frames that the events put into the source, in order
abbrev pub accepted : List Event → List (List ℕ)
accepted [] = []
accepted (e ∷ es) = accepted_by e ++ accepted es

-- the patience after an event, where it was p before
abbrev pub patience_by : Event → ℕ → ℕ
patience_by (patience_set number answer) p = cond (is_ok answer) number p
patience_by e p = p

-- the patience after events: the last that was accepted, or else as before
abbrev pub patience_after : ℕ → List Event → ℕ
patience_after p [] = p
patience_after p (e ∷ es) = patience_after (patience_by e p) es

-- whether the event is a reset, or sets the patience
abbrev pub disturbs : Event → Bool
disturbs restarted = true
disturbs (patience_set number answer) = is_ok answer
disturbs e = false

-- the events before the first that takes a frame
abbrev pub until_taken : List Event → List Event
until_taken [] = []
until_taken (e ∷ es) = cond (takes e) [] (e ∷ until_taken es)

-- whether the event is a delivery
abbrev pub is_delivery : Event → Bool
is_delivery (pulled lent (Ok (Delivered d)) left) = true
is_delivery e = false

-- whether the event is a reset
abbrev pub is_reset : Event → Bool
is_reset restarted = true
is_reset e = false

-- whether there was a delivery since the beginning, or since the last reset; `before` says whether there was one before these events
abbrev pub found : Bool → List Event → Bool
found before [] = before
found before (e ∷ es) = found (cond (is_reset e) false (cond (is_delivery e) true before)) es

-- A run that is cut in two: what came before the cut, and what came later.
pub record Cut {r after : Reception} (past future : List Event) (run : Run r (past ++ future) after) : Type 0 where
  pub cut : Reception
  pub earlier : Run r past cut
  pub later : Run cut future after
  pub frames : frames_taken run ≡ frames_taken earlier ++ frames_taken later

-- Every run can be cut before each of its events, and at its end.
abbrev pub CutAnywhere : Type 0
CutAnywhere = (r after : Reception) (past future : List Event) (run : Run r (past ++ future) after) → Cut past future run

-- A run and another from where it ends are one run, whatever their buffers, and its frames are those of the two.
abbrev pub RunsAreOneRun : Type 0
RunsAreOneRun =
    (r between after : Reception) (past future : List Event) (first : Run r past between) (second : Run between future after)
    → (whole : Run r (past ++ future) after) × (frames_taken whole ≡ frames_taken first ++ frames_taken second)
