-- What hearing of a call does to a report, and what a report sums up.
use Rattle.std.specs.Prelude.{◌≡◌, ℕ, ◌+◌, ◌*◌, List, [], ◌++◌, map, Option, Some, IfSome, replicate}
use Rattle.sources.specs.Queues.{queue_source}
use Rattle.sources.specs.Frames.{whole_frames}
use Rattle.reception.specs.declared.calls.Call.{Call}
use Rattle.reception.specs.declared.calls.Outcome.{Outcome}
use Rattle.reception.specs.Receptions.{Reception, Event, new_receiver}
use Rattle.reception.specs.Runs.{Run, frames_taken}
use Rattle.reception.specs.Driving.{Answered}
use Rattle.dabreceive.specs.declared.summary.Summary.{Summary}
use Rattle.dabreceive.specs.declared.reporting.Reporting.{Reporting}
use Rattle.dabreceive.specs.Summaries.{counted, with_events}
use Rattle.dabreceive.specs.Plans.{question, first_questions, replay_questions}

-- The summary has what came of the call, and the first failure stays.
pub record Hears (report : Reporting) (outcome : Outcome) (after : Reporting) : Type 0 where
  pub summary : after.summary ≡ counted report.summary outcome
  pub failure : IfSome report.failure (λ failure. after.failure ≡ Some failure)

-- A receiver of this size was made over an empty queue of 32 places, these calls were made on it, one after another and each answered by the
-- rules, and the summary has what came of each.
pub record SumsUp (size : ℕ) (calls : List Call) (summary after : Summary) : Type 0 where
  pub events : List Event
  pub end : Reception
  pub run : Run (new_receiver size (queue_source (24 * size) [] 32)) events end
  -- what the buffer for pulls holds at the end
  pub left : List ℕ
  pub answered : Answered calls (replicate (120 * size + 1) 0) events left
  pub summed : after ≡ with_events summary events

-- The calls are those of a replay, and are summed up so; and the receiver took the whole frames of the recording, each once and in their order.
pub record Replays (size : ℕ) (patience : Option ℕ) (recording : List ℕ) (summary after : Summary) : Type 0 where
  pub calls : List Call
  pub asked : map question calls ≡ first_questions patience ++ replay_questions size recording
  pub sums : SumsUp size calls summary after
  pub taken : frames_taken sums.run ≡ whole_frames (24 * size) recording
