-- What the calls of a receiver add to a summary.
use Rattle.std.specs.Prelude.{ℕ, ◌+◌, ◌-◌, ◌^◌, min, Bool, true, false, is_some, List, [], ◌∷◌, Option, Some, None, Ok, Err}
use Rattle.std.specs.List.{count_by}
use Rattle.reception.specs.declared.answers.UnitState.{UnitState}
use Rattle.reception.specs.declared.answers.UnitState.TheVariants.{Good, Bad}
use Rattle.reception.specs.declared.answers.Delivery.{Delivery}
use Rattle.reception.specs.declared.answers.Pulled.{Pulled}
use Rattle.reception.specs.declared.answers.Pulled.TheVariants.{NothingWaiting, Held, Missed, Delivered}
use Rattle.reception.specs.declared.calls.Outcome.{Outcome}
use Rattle.reception.specs.declared.calls.Outcome.TheVariants as outcomes
use Rattle.reception.specs.Receptions.{Event}
use Rattle.reception.specs.Driving.{outcome_of}
use Rattle.dabreceive.specs.declared.summary.Summary.{Summary}

-- the sum, or the greatest number that is counted
abbrev pub sum_up_to : ℕ → ℕ → ℕ
sum_up_to a b = min (a + b) (2 ^ 64 - 1)

-- whether there is such a unit, and its check is right
abbrev pub is_good_unit : Option UnitState → Bool
is_good_unit None = false
is_good_unit (Some Good) = true
is_good_unit (Some Bad) = false

-- the summary with one more frame that was taken
abbrev pub with_frame : Summary → Summary
with_frame s = record s { frames = sum_up_to s.frames 1 }

-- the summary with one more super frame that was delivered, its units, and what correcting its rows did
abbrev pub with_delivery : Summary → Delivery → Summary
with_delivery s d = record s {
  delivered = sum_up_to s.delivered 1;
  units = sum_up_to s.units (count_by is_some d.units);
  good = sum_up_to s.good (count_by is_good_unit d.units);
  changed = sum_up_to s.changed d.repair.changed;
  rows_left = sum_up_to s.rows_left d.repair.rows_left;
}

-- the summary with what a pull that is not refused answers
abbrev pub with_pulled : Summary → Pulled → Summary
with_pulled s NothingWaiting = s
with_pulled s Held = with_frame s
with_pulled s (Missed refusal) = record (with_frame s) { missed = sum_up_to s.missed 1 }
with_pulled s (Delivered d) = with_delivery (with_frame s) d

-- the summary with what came of a call
abbrev pub counted : Summary → Outcome → Summary
counted s (outcomes.Pulled (Ok pulled)) = with_pulled s pulled
counted s (outcomes.Pulled (Err refusal)) = s
counted s (outcomes.Offered answer) = s
counted s outcomes.Restarted = s
counted s (outcomes.PatienceSet answer) = s
counted s (outcomes.Reported report) = s

-- the summary with what came of the calls of each of these events
abbrev pub with_events : Summary → List Event → Summary
with_events s [] = s
with_events s (e ∷ es) = with_events (counted s (outcome_of e)) es
