-- What a witness of calls knows, and what handing in frames one by one does.
use Rattle.std.specs.Prelude.{◌≡◌, ℕ, ◌+◌, ◌-◌, ◌*◌, ◌/◌, ◌^◌, ◌<◌, map, min, true, false, List, [], ◌∷◌, length, Ok, Err}
use Rattle.std.specs.List.{count_by, range_with_len}
use Rattle.sources.specs.Frames.{frame_at}
use Rattle.sources.specs.Queues.{queue_source}
use Rattle.reception.specs.declared.mode.Mode.TheVariants.{Locked}
use Rattle.reception.specs.declared.answers.Pulled.TheVariants.{NothingWaiting, Held, Missed, Delivered}
use Rattle.reception.specs.declared.calls.Outcome.{Outcome}
use Rattle.reception.specs.declared.calls.Outcome.TheVariants as outcomes
use Rattle.reception.specs.Receptions.{Reception, Event, new_receiver, report_of, patience_set}
use Rattle.reception.specs.Rules.{Rule}
use Rattle.reception.specs.Runs.{Run, number_taken, accepted, disturbs, is_delivery}
use Rattle.stretches.specs.declared.witness.Witness.{Witness}
use Rattle.stretches.specs.declared.losses.Passage.{Passage}

-- the witness once it heard what came of a call
abbrev pub heard : Witness → Outcome → Witness
heard w (outcomes.Pulled (Ok NothingWaiting)) = record w { smooth = false }
heard w (outcomes.Pulled (Ok Held)) = w
heard w (outcomes.Pulled (Ok (Missed refusal))) = w
heard w (outcomes.Pulled (Ok (Delivered d))) = record w { deliveries = min (w.deliveries + 1) (2 ^ 64 - 1) }
heard w (outcomes.Pulled (Err refusal)) = record w { smooth = false }
heard w (outcomes.Offered (Ok _)) = w
heard w (outcomes.Offered (Err refusal)) = record w { smooth = false }
heard w outcomes.Restarted = w
heard w (outcomes.PatienceSet answer) = w
heard w (outcomes.Reported told) = w

-- a witness of no call yet
abbrev pub nothing_heard : Witness
nothing_heard = record { smooth = true; deliveries = 0 }

-- no event disturbs
abbrev pub AllCalm : List Event → Type 0
AllCalm [] = Unit {0}
AllCalm (e ∷ es) = (disturbs e ≡ false) × AllCalm es

-- These frames went in, as many came out, and so many more were delivered.
pub record Smooth (frames : List (List ℕ)) (before after : Witness) (events : List Event) : Type 0 where
  pub smooth : before.smooth ≡ true
  pub accepted_are : accepted events ≡ frames
  pub taken : number_taken events ≡ length frames
  pub calm : AllCalm events
  -- where the count is not at its end
  pub deliveries : after.deliveries < 2 ^ 64 - 1 → after.deliveries ≡ before.deliveries + count_by is_delivery events

-- These frames were handed in, and one was taken behind each.
pub record Fed (r : Reception) (frames : List (List ℕ)) (before : Witness) (after : Reception) (told : Witness) : Type 0 where
  pub events : List Event
  pub run : Run r events after
  pub is_smooth : told.smooth ≡ true → Smooth frames before told events

-- frames of a recording, from frame `first` on
abbrev pub frames_from : ℕ → List ℕ → ℕ → ℕ → List (List ℕ)
frames_from size bytes first count = map (frame_at (24 * size) bytes) (range_with_len first count)

-- A recording was handed to a new receiver over an empty queue, once its patience was set. The run is cut before frame `start`.
pub record Passed (size patience start : ℕ) (bytes : List ℕ) (passage : Passage) : Type 0 where
  pub begun : Reception
  pub cut : Reception
  pub after : Reception
  pub set : Rule (new_receiver size (queue_source (24 * size) [] 32)) (patience_set patience (Ok tt)) begun
  pub earlier : Fed begun (frames_from size bytes 0 start) nothing_heard cut passage.before
  pub told : passage.cut ≡ report_of cut
  pub later : Fed cut (frames_from size bytes start (length bytes / (24 * size) - start)) nothing_heard after passage.behind

-- A passage tells of a receiver that was locked amid five frames at the cut, and delivered so many super frames then.
pub record IsBack (passage : Passage) (deliveries : ℕ) : Type 0 where
  pub smooth_before : passage.before.smooth ≡ true
  pub locked : passage.cut.mode ≡ Locked
  pub amid : 0 < passage.cut.held
  pub smooth_behind : passage.behind.smooth ≡ true
  pub delivered : passage.behind.deliveries ≡ deliveries
  -- and the count is not at its end
  pub below : passage.behind.deliveries < 2 ^ 64 - 1
