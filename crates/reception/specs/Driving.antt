-- What running a list of calls on a receiver comes to.
use Rattle.std.specs.Prelude.{◌≡◌, ℕ, List, [], ◌∷◌, ◌++◌, length, take, drop}
use Rattle.reception.specs.declared.calls.Call.{Call}
use Rattle.reception.specs.declared.calls.Call.TheVariants.{Pull, Offer, Reset, Patience, Report}
use Rattle.reception.specs.declared.calls.Outcome.{Outcome}
use Rattle.reception.specs.declared.calls.Outcome.TheVariants as outcomes
use Rattle.reception.specs.Receptions.{Reception, Asked, pull, offer, reset, patience, report, Event, pulled, offered, restarted, patience_set, reported, asked_by}
use Rattle.reception.specs.Runs.{Run}

-- what a call asks, made while the buffer for pulls holds these bytes: a pull is lent as many of them as it says, or all
abbrev pub asked_of : Call → List ℕ → Asked
asked_of (Pull long) buffer = pull (take long buffer)
asked_of (Offer frame) buffer = offer frame.now
asked_of Reset buffer = reset
asked_of (Patience number) buffer = patience number
asked_of Report buffer = report

-- what the buffer for pulls holds after an event
abbrev pub left_by : Event → List ℕ → List ℕ
left_by (pulled lent answer left) buffer = left ++ drop (length lent) buffer
left_by e buffer = buffer

-- The events are of these calls, made one after another with this buffer for pulls, which holds `left` at the end.
abbrev pub Answered : List Call → List ℕ → List Event → List ℕ → Type 0
Answered [] buffer [] left = left ≡ buffer
Answered [] buffer (e ∷ es) left = ⊥
Answered (call ∷ calls) buffer [] left = ⊥
Answered (call ∷ calls) buffer (e ∷ es) left = (asked_by e ≡ asked_of call buffer) × Answered calls (left_by e buffer) es left

-- the outcome of an event
abbrev pub outcome_of : Event → Outcome
outcome_of (pulled lent answer left) = outcomes.Pulled answer
outcome_of (offered frame answer) = outcomes.Offered answer
outcome_of restarted = outcomes.Restarted
outcome_of (patience_set number answer) = outcomes.PatienceSet answer
outcome_of (reported told) = outcomes.Reported told

-- what the buffer of a pull holds then; no bytes for any other call
abbrev pub block_of : Event → List ℕ
block_of (pulled lent answer left) = left
block_of e = []

module _ {L : Type 0} (hears : L → Call → Outcome → List ℕ → L → Type 0) where
  -- The listener was told of each call, in order, what came of it.
  abbrev pub Told : List Call → List Event → L → L → Type 0
  Told [] [] listener after = after ≡ listener
  Told [] (e ∷ es) listener after = ⊥
  Told (call ∷ calls) [] listener after = ⊥
  Told (call ∷ calls) (e ∷ es) listener after =
      (between : L) × hears listener call (outcome_of e) (block_of e) between × Told calls es between after

  -- These calls were run on a receiver, and the listener was told of each. Before, the buffer for pulls and the listener were these; now they
  -- are `left` and `after`, and the receiver is `end`.
  pub record Driven (r : Reception) (calls : List Call) (buffer left : List ℕ) (listener after : L) (end : Reception) : Type 0 where
    pub events : List Event
    -- each by the rules
    pub run : Run r events end
    pub answered : Answered calls buffer events left
    pub told : Told calls events listener after

  -- What is run piece by piece is one run: all calls, with the events of the first piece and then those of the second.
  abbrev pub PiecesAreOneRun : Type 0
  PiecesAreOneRun =
      (r between end : Reception) (calls more : List Call) (buffer middle left : List ℕ) (listener told after : L)
      (first : Driven r calls buffer middle listener told between) (second : Driven between more middle left told after end)
      → (whole : Driven r (calls ++ more) buffer left listener after end) × (whole.events ≡ first.events ++ second.events)
