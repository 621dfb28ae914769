-- The law over runs: a receiver is back after bad reception, within a known number of super frames.
use Rattle.std.specs.Prelude.{◌≡◌, ℕ, suc, ◌+◌, ◌-◌, ◌*◌, ◌<◌, ◌≤◌, ◌⊎◌, true, List, ◌∷◌, ◌++◌, length, take, drop, Some, None, Ok, slice_index_or}
use Rattle.std.specs.List.{concat}
use Rattle.interleaver.specs.Rows.{wrong}
use Rattle.block.specs.Headers.{unit_count}
use Rattle.sources.specs.Sources.{Source}
use Rattle.reception.specs.declared.answers.UnitState.TheVariants.{Good}
use Rattle.reception.specs.declared.answers.Delivery.{Delivery}
use Rattle.reception.specs.declared.answers.Pulled.TheVariants.{Delivered}
use Rattle.reception.specs.Receptions.{Reception, new_receiver, Event, pulled}
use Rattle.reception.specs.Blocks.{SuperFrame, Carries, IsLegible, states_of_units}
use Rattle.reception.specs.Runs.{Run, takes, number_taken, frames_taken, accepted, patience_after, disturbs, until_taken}

-- the element of a list at a place, counted from 0
pub data At {A : Type 0} : List A → ℕ → A → Type 0 where
  here : {x : A} {xs : List A} → At (x ∷ xs) 0 x
  there : {x y : A} {xs : List A} {i : ℕ} → At xs i x → At (y ∷ xs) (suc i) x

-- The line at a cut of a run: the frames that wait there, then those of the offers that are accepted later.
abbrev pub line_of : Reception → List Event → List (List ℕ)
line_of cut future = cut.source.waiting ++ accepted future

-- five frames of the line put together, from the frame 5 · i on
abbrev pub five_at : List (List ℕ) → ℕ → List ℕ
five_at line i = concat (take 5 (drop (5 * i) line))

-- A stretch of good reception begins the line: its first fives are the written super frames that were sent, one after another, each with at
-- most five wrong bytes in each row of 120.
pub record Stretch (size : ℕ) (line : List (List ℕ)) (sent : List SuperFrame) : Type 0 where
  pub long_enough : 5 * length sent ≤ length line
  pub carried : {i : ℕ} {written : SuperFrame} → At sent i written → Carries size (five_at line i) written

-- After the pull that takes the stretch's first frame and before the one that takes its last there is no reset, and no patience call that is
-- accepted.
abbrev pub Undisturbed : ℕ → List Event → Type 0
Undisturbed super_frames future =
    (before after : List Event) (e : Event) → future ≡ before ++ e ∷ after → disturbs e ≡ true
    → (number_taken before ≡ 0) ⊎ (5 * super_frames ≤ number_taken before)

-- The frame at a place of the stretch is the fifth of super frame i.
abbrev pub FifthOf : ℕ → ℕ → Type 0
FifthOf i place = place ≡ 5 * i + 4

-- Of all frames taken, those before the cut included, no five in a row whose last is in the stretch are legible, but its own super frames.
abbrev pub NoOtherLegible : ℕ → ℕ → List (List ℕ) → List (List ℕ) → Type 0
NoOtherLegible size super_frames taken_before taken_later =
    (older five newer : List (List ℕ)) (place : ℕ) → taken_before ++ taken_later ≡ older ++ (five ++ newer) → length five ≡ 5
    → length (older ++ five) ≡ length taken_before + (place + 1) → place < 5 * super_frames
    → ((i : ℕ) → FifthOf i place → ⊥) → IsLegible size (concat five) → ⊥

-- The event delivers the super frame, received as this block, as it was written.
pub record AsWritten (size : ℕ) (received : List ℕ) (written : SuperFrame) (e : Event) : Type 0 where
  pub lent : List ℕ
  pub d : Delivery
  -- it is a delivery, and the buffer is the written super frame, byte for byte
  pub event : e ≡ pulled lent (Ok (Delivered d)) written.block
  -- parameters and starts are those of its header
  pub header : d.header ≡ written.header
  -- no row is left, and the bytes changed are the wrong ones
  pub repair : d.repair ≡ record { changed = wrong received written.block; rows_left = 0; lowest_left = None }
  -- the units are its units, and every one is good
  pub units : d.units ≡ states_of_units written.header written.block
  pub all_good : (n : ℕ) → n < unit_count written.header → slice_index_or d.units n None ≡ Some Good

-- What the event answers that takes the frame at a place of the stretch, where so many super frames of it may be lost.
pub record Keeps (size lost : ℕ) (line : List (List ℕ)) (sent : List SuperFrame) (place : ℕ) (e : Event) : Type 0 where
  -- at the fifth frame of a super frame of the stretch it delivers that one as written, but for the first of them, as many as may be lost
  pub none_lost : (i : ℕ) (written : SuperFrame) → At sent i written → FifthOf i place → lost ≤ i
      → AsWritten size (five_at line i) written e
  -- and if it delivers at all, it is at the fifth frame of one, and delivers that one as written
  pub none_else : (lent left : List ℕ) (d : Delivery) → e ≡ pulled lent (Ok (Delivered d)) left
      → (i : ℕ) × (written : SuperFrame) × At sent i written × FifthOf i place × AsWritten size (five_at line i) written e

-- What is supposed of a stretch: a receiver was made for a size over a source, and these events followed, before and after a cut.
pub record Supposed (size : ℕ) (source : Source) (past future : List Event) (sent : List SuperFrame) : Type 0 where
  pub cut : Reception
  pub after : Reception
  pub earlier : Run (new_receiver size source) past cut
  pub later : Run cut future after
  pub stretch : Stretch size (line_of cut future) sent
  pub undisturbed : Undisturbed (length sent) future

-- The receiver is back. Whatever came before: once good reception begins and as long as it lasts, at most as many super frames are lost as the
-- patience less one. P is the patience last accepted before the stretch's first frame is taken, or 3. Each super frame from number P - 1 on, the
-- first having number 0, is delivered as it was written when its fifth frame is taken, and nothing else is delivered.
abbrev pub BackAfterBadReception : Type 0
BackAfterBadReception =
    (size : ℕ) (source : Source) (past future : List Event) (sent : List SuperFrame) (r : Supposed size source past future sent)
    → NoOtherLegible size (length sent) (frames_taken r.earlier) (frames_taken r.later)
    → (before after : List Event) (e : Event) → future ≡ before ++ e ∷ after → takes e ≡ true → number_taken before < 5 * length sent
    → Keeps size (patience_after 3 (past ++ until_taken future) - 1) (line_of r.cut future) sent (number_taken before) e
