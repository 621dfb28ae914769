-- The rules of a receiver: which answer a call has, and what it leaves. Each is one constructor.
use Rattle.std.specs.Prelude.{◌≡◌, ℕ, ◌+◌, ◌<◌, ◌≤◌, List, [], ◌∷◌, ◌++◌, length, drop, Some, None, Ok, Err, Result}
use Rattle.std.specs.List.{concat}
use Rattle.gf.specs.declared.refusal.Refusal.{Refusal}
use Rattle.gf.specs.Refusals.{first_refusal}
use Rattle.sources.specs.Sources.{Source, Offers}
use Rattle.reception.specs.declared.mode.Mode.TheVariants.{Hunting, Locked}
use Rattle.reception.specs.declared.answers.Delivery.{Delivery}
use Rattle.reception.specs.declared.answers.Pulled.TheVariants.{NothingWaiting, Held, Missed, Delivered}
use Rattle.reception.specs.Receptions.{Reception, taking, report_of, pull_complaints, patience_complaints, Event, pulled, offered, restarted, patience_set, reported}
use Rattle.reception.specs.Blocks.{Delivers, Misread, IsCleanAndLegible}

-- A pull with this buffer is not refused.
abbrev pub Ready : Reception → List ℕ → Type 0
Ready r buffer = first_refusal (pull_complaints r buffer) ≡ None

-- This frame waits in front of the others.
abbrev pub InFront : Reception → List ℕ → Type 0
InFront r frame = r.source.waiting ≡ frame ∷ drop 1 r.source.waiting

-- the frames held and one more behind them
abbrev pub with_frame : Reception → List ℕ → List (List ℕ)
with_frame r frame = r.held ++ frame ∷ []

-- With this frame there are five.
abbrev pub Fifth : Reception → Type 0
Fifth r = length r.held + 1 ≡ 5

-- the five put together
abbrev pub received : Reception → List ℕ → List ℕ
received r frame = concat (with_frame r frame)

-- From a receiver, by a call and its answer, to the receiver after it. Each constructor is one rule.
pub data Rule : Reception → Event → Reception → Type 0 where
  -- A pull is refused: nothing is taken, and nothing is changed.
  pull_refused : {r : Reception} {buffer : List ℕ} {refusal : Refusal}
      → first_refusal (pull_complaints r buffer) ≡ Some refusal
      → Rule r (pulled buffer (Err refusal) buffer) r
  -- No frame waits: nothing is changed.
  nothing_waits : {r : Reception} {buffer : List ℕ}
      → Ready r buffer → r.source.waiting ≡ []
      → Rule r (pulled buffer (Ok NothingWaiting) buffer) r
  -- A frame is taken, and there are fewer than five with it: it is held.
  gathers : {r : Reception} {buffer frame : List ℕ}
      → Ready r buffer → InFront r frame → length r.held + 1 < 5
      → Rule r (pulled buffer (Ok Held) buffer) (taking r r.mode (with_frame r frame) r.misses)
  -- Hunting, five with it, and the block is clean and legible: it is delivered, and the receiver locks.
  finds : {r : Reception} {buffer frame block : List ℕ} {d : Delivery}
      → Ready r buffer → InFront r frame → Fifth r → r.mode ≡ Hunting
      → Delivers r.size (received r frame) d block → d.repair.rows_left ≡ 0
      → Rule r (pulled buffer (Ok (Delivered d)) block) (taking r Locked [] 0)
  -- Hunting, five with it, and the block is not clean and legible: the oldest frame goes.
  passes_by : {r : Reception} {buffer frame : List ℕ}
      → Ready r buffer → InFront r frame → Fifth r → r.mode ≡ Hunting
      → (IsCleanAndLegible r.size (received r frame) → ⊥)
      → Rule r (pulled buffer (Ok Held) buffer) (taking r Hunting (drop 1 (with_frame r frame)) r.misses)
  -- Locked, five with it, and the block is legible: it is delivered, and no misses are left.
  follows : {r : Reception} {buffer frame block : List ℕ} {d : Delivery}
      → Ready r buffer → InFront r frame → Fifth r → r.mode ≡ Locked
      → Delivers r.size (received r frame) d block
      → Rule r (pulled buffer (Ok (Delivered d)) block) (taking r Locked [] 0)
  -- Locked, five with it, the block is not legible, and with this miss there are still fewer than the patience: the five frames go.
  misses_one : {r : Reception} {buffer frame : List ℕ} {refusal : Refusal}
      → Ready r buffer → InFront r frame → Fifth r → r.mode ≡ Locked
      → Misread r.size (received r frame) refusal → r.misses + 1 < r.patience
      → Rule r (pulled buffer (Ok (Missed refusal)) buffer) (taking r Locked [] (r.misses + 1))
  -- The same, and there are as many misses as the patience, or more: the receiver hunts, and the last four frames stay.
  loses_lock : {r : Reception} {buffer frame : List ℕ} {refusal : Refusal}
      → Ready r buffer → InFront r frame → Fifth r → r.mode ≡ Locked
      → Misread r.size (received r frame) refusal → r.patience ≤ r.misses + 1
      → Rule r (pulled buffer (Ok (Missed refusal)) buffer) (taking r Hunting (drop 1 (with_frame r frame)) 0)
  -- An offer goes to the source, with its answer.
  passes_on : {r : Reception} {frame : List ℕ} {after : Source} {answer : Result Unit Refusal}
      → Offers r.source frame after answer
      → Rule r (offered frame answer) (record r { source = after })
  -- A reset: no frame is held, no misses are left, and the receiver hunts.
  restarts : {r : Reception}
      → Rule r restarted (record r { mode = Hunting; held = []; misses = 0 })
  -- A new patience of 1 to 16.
  sets_patience : {r : Reception} {number : ℕ}
      → first_refusal (patience_complaints number) ≡ None
      → Rule r (patience_set number (Ok tt)) (record r { patience = number })
  -- Any other patience is refused, and nothing is changed.
  keeps_patience : {r : Reception} {number : ℕ} {refusal : Refusal}
      → first_refusal (patience_complaints number) ≡ Some refusal
      → Rule r (patience_set number (Err refusal)) r
  -- A report changes nothing.
  reports : {r : Reception}
      → Rule r (reported (report_of r)) r
