-- What every receiver that keeps the rules does beside coming back: it serves the frames that wait, loses nothing while it hunts, and answers
-- every call in one way.
use Rattle.std.specs.Prelude.{◌≡◌, ℕ, ◌+◌, ◌*◌, ◌<◌, ◌≤◌, ◌⊎◌, true, false, List, ◌∷◌, ◌++◌, length}
use Rattle.std.specs.List.{All, concat}
use Rattle.interleaver.specs.Rows.{AreBytes}
use Rattle.sources.specs.Sources.{Source, FramesFit}
use Rattle.reception.specs.declared.mode.Mode.TheVariants.{Hunting}
use Rattle.reception.specs.Receptions.{Reception, new_receiver, Asked, pull, offer, reset, patience, report, Event, asked_by}
use Rattle.reception.specs.Blocks.{SuperFrame, IsCleanAndLegible}
use Rattle.reception.specs.Rules.{Ready, Rule}
use Rattle.reception.specs.Runs.{Run, takes, number_taken, frames_taken, found}
use Rattle.reception.specs.Recovery.{line_of, Keeps, Supposed}

-- The line is served: a pull that is not refused, made while the line has a frame that is not taken yet, takes a frame.
abbrev pub LineServed : Type 0
LineServed =
    (before : List Event) (cut now after : Reception) (e : Event) (buffer : List ℕ) → Run cut before now → Rule now e after
    → asked_by e ≡ pull buffer → Ready now buffer → number_taken before < length (line_of cut before) → takes e ≡ true

-- No five in a row whose last is one of the stretch's first four frames are clean and legible.
abbrev pub NoFalseBoundary : ℕ → List (List ℕ) → List (List ℕ) → Type 0
NoFalseBoundary size taken_before taken_later =
    (older five newer : List (List ℕ)) (place : ℕ) → taken_before ++ taken_later ≡ older ++ (five ++ newer) → length five ≡ 5
    → length (older ++ five) ≡ length taken_before + (place + 1) → place < 4 → IsCleanAndLegible size (concat five) → ⊥

-- Nothing is lost while hunting. Where the receiver hunts at the cut, as it surely does where nothing was delivered since it was made or was
-- last reset, each super frame of the stretch is delivered as written, and nothing else; it is enough that no false boundary is met before the
-- first one is complete.
abbrev pub NothingLostWhileHunting : Type 0
NothingLostWhileHunting =
    (size : ℕ) (source : Source) (past future : List Event) (sent : List SuperFrame) (r : Supposed size source past future sent)
    → (found false past ≡ false) ⊎ (r.cut.mode ≡ Hunting)
    → NoFalseBoundary size (frames_taken r.earlier) (frames_taken r.later)
    → (before after : List Event) (e : Event) → future ≡ before ++ e ∷ after → takes e ≡ true → number_taken before < 5 * length sent
    → Keeps size 0 (line_of r.cut future) sent (number_taken before) e

-- What every receiver keeps that is given frames of bytes: at most four frames are held, and those that are held or wait have their length.
pub record Sound (r : Reception) : Type 0 where
  pub few : length r.held ≤ 4
  pub held_long : All (λ frame. length frame ≡ 24 * r.size) r.held
  pub held_bytes : All AreBytes r.held
  pub waiting_long : FramesFit r.source
  pub waiting_bytes : All AreBytes r.source.waiting

-- a frame that is offered is bytes
abbrev pub AsksOfBytes : Asked → Type 0
AsksOfBytes (pull buffer) = Unit {0}
AsksOfBytes (offer frame) = AreBytes frame
AsksOfBytes reset = Unit {0}
AsksOfBytes (patience number) = Unit {0}
AsksOfBytes report = Unit {0}

-- The rules leave each call one answer, and one receiver and buffer after it: never none, and never two.
pub record OneAnswer : Type 0 where
  pub made : (size : ℕ) (source : Source) → FramesFit source → All AreBytes source.waiting → Sound (new_receiver size source)
  pub exists : (r : Reception) (asked : Asked) → Sound r → AsksOfBytes asked
      → (e : Event) × (after : Reception) × (asked_by e ≡ asked) × Rule r e after × Sound after
  pub unique : (r after after′ : Reception) (e e′ : Event) → asked_by e ≡ asked_by e′ → Rule r e after → Rule r e′ after′
      → (e ≡ e′) × (after ≡ after′)
