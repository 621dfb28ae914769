-- What the private steps of a receiver answer. No public contract speaks of these.
use Rattle.std.specs.Prelude.{◌≡◌, ℕ, ◌*◌, ◌≤◌, List, length, Result, MatchResult}
use Rattle.gf.specs.declared.refusal.Refusal.{Refusal}
use Rattle.interleaver.specs.declared.repair.Repair.{Repair}
use Rattle.reception.specs.declared.answers.Delivery.{Delivery}
use Rattle.reception.specs.declared.calls.Call.{Call}
use Rattle.reception.specs.declared.calls.Outcome.{Outcome}
use Rattle.reception.specs.Receptions.{Reception, Event, asked_by}
use Rattle.reception.specs.Blocks.{RepairOf, Delivers, Misread}
use Rattle.reception.specs.Rules.{Rule}
use Rattle.reception.specs.Driving.{asked_of, left_by, outcome_of, block_of}

-- Where a pull is not refused: the size is in range, the buffer has the length of a block, and the source's frames have theirs.
pub record PullFits (r : Reception) (buffer : List ℕ) : Type 0 where
  pub in_range : (1 ≤ r.size) × (r.size ≤ 24)
  pub buffer_long : length buffer ≡ 120 * r.size
  pub frames_long : r.source.frame_length ≡ 24 * r.size

-- What reading a repaired block answers, whichever block was repaired to it: it is delivered, or missed.
abbrev pub Reads : ℕ → Repair → List ℕ → Result Delivery Refusal → Type 0
Reads size repair block answer =
    (received : List ℕ) → RepairOf size received block repair
    → MatchResult answer (λ d. Delivers size received d block) (Misread size received)

-- One call was run.
pub record Ran {L : Type 0} (hears : L → Call → Outcome → List ℕ → L → Type 0) (r : Reception) (call : Call) (buffer left : List ℕ)
    (listener after : L) (r_after : Reception) : Type 0 where
  pub event : Event
  pub rule : Rule r event r_after
  pub asked : asked_by event ≡ asked_of call buffer
  pub left_is : left ≡ left_by event buffer
  pub told : hears listener call (outcome_of event) (block_of event) after
