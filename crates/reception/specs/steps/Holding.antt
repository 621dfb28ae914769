-- The frames that a receiver holds, and what taking one more does.
use Rattle.std.specs.Prelude.{◌≡◌, ℕ, List, ◌∷◌, ◌++◌, [], map, Result, Ok, Err}
use Rattle.std.specs.List.{range_with_len}
use Rattle.gf.specs.declared.refusal.Refusal.{Refusal}
use Rattle.sources.specs.declared.source.Next.{Next}
use Rattle.sources.specs.declared.source.Next.TheVariants.{Frame, NothingWaiting}
use Rattle.sources.specs.Sources.{Source, without_first}
use Rattle.sources.specs.Frames.{frame_at}

-- frames of one length, the oldest first
pub record Holding : Type 0 where
  pub frame_length : ℕ
  pub frames : List (List ℕ)

-- so many frames in bytes, one behind another
abbrev pub holding : ℕ → ℕ → List ℕ → Holding
holding frame_length count bytes = record { frame_length = frame_length; frames = map (frame_at frame_length bytes) (range_with_len 0 count) }

-- The frame in front of the source is taken, and held behind the others; or none waits, and nothing is changed.
abbrev pub TakesIn : Source → Holding → Source → Holding → Result Next Refusal → Type 0
TakesIn source held after held_after (Ok Frame) =
    (frame : List ℕ) × (source.waiting ≡ frame ∷ (without_first source).waiting) × (after ≡ without_first source)
    × (held_after ≡ record held { frames = held.frames ++ frame ∷ [] })
TakesIn source held after held_after (Ok NothingWaiting) = (source.waiting ≡ []) × (after ≡ source) × (held_after ≡ held)
TakesIn source held after held_after (Err refusal) = ⊥
