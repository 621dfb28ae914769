-- What a listener that sums up has heard in the end.
use Rattle.std.proofs.Common.{◌≡◌, ℕ, ◌+◌, ◌*◌, List, [], ◌∷◌, replicate, ap, ap₂, ◌∙◌, subst}
use Rattle.sources.specs.Sources.{Source}
use Rattle.sources.specs.Queues.{queue_source}
use Rattle.reception.specs.declared.calls.Call.{Call}
use Rattle.reception.specs.declared.calls.Outcome.{Outcome}
use Rattle.reception.specs.Receptions.{Reception, Event, new_receiver}
use Rattle.reception.specs.Runs.{Run}
use Rattle.reception.specs.Driving.{Answered, Told, Driven}
use Rattle.dabreceive.specs.declared.reporting.Reporting.{Reporting}
use Rattle.dabreceive.specs.Summaries.{with_events}
use Rattle.dabreceive.specs.Reports.{Hears, SumsUp}

-- what a report may be after it heard
abbrev pub heard : Reporting → Call → Outcome → List ℕ → Reporting → Type 0
heard report call outcome block after = Hears report outcome after

-- A report that was told of events has summed them up.
summed : (calls : List Call) (events : List Event) (report after : Reporting) → Told heard calls events report after
    → after.summary ≡ with_events report.summary events
summed [] [] report after told = ap (λ r. r.summary) told
summed [] (e ∷ es) report after told = absurd told
summed (call ∷ calls) [] report after told = absurd told
summed (call ∷ calls) (e ∷ es) report after told =
    summed calls es told.0 after told.2 ∙ ap (λ s. with_events s es) told.1.summary

-- The receiver was driven over an empty queue.
pub sums_up : (size : ℕ) {number : ℕ} {queue : Source} {calls : List Call} {buffer left : List ℕ} {report after : Reporting} {end : Reception}
    → Driven heard (new_receiver number queue) calls buffer left report after end
    → number ≡ size → queue ≡ queue_source (24 * size) [] 32 → buffer ≡ replicate (120 * size + 1) 0
    → SumsUp size calls report.summary after.summary
sums_up size {calls = calls} {left = left} {report = report} {after = after} {end = end} driven number_is queue_is buffer_is = record {
  events = driven.events;
  end = end;
  run = subst (λ r. Run r driven.events end) (ap₂ new_receiver number_is queue_is) driven.run;
  left = left;
  answered = subst (λ (b : List ℕ). Answered calls b driven.events left) buffer_is driven.answered;
  summed = summed calls driven.events report after driven.told;
}
