-- What the steps of writing a super frame promise each other. No public contract speaks of these.
use Rattle.std.specs.Prelude.{◌≡◌, ℕ, ◌-◌, ◌*◌, List, ◌∷◌, ◌++◌, length, take, drop, Result}
use Rattle.gf.specs.declared.refusal.Refusal.{Refusal}
use Rattle.gf.specs.Refusals.{Answers}
use Rattle.interleaver.specs.Rows.{ChecksFilled}
use Rattle.block.specs.declared.settings.Settings.{Settings}
use Rattle.block.specs.declared.writer.OpenWriter.{OpenWriter}
use Rattle.block.specs.SuperFrames.{layout_for, parameter_byte, packed, digits, checked_units, Fill}
use Rattle.block.specs.Places.{units_in}
use Rattle.block.specs.Writing.{making_complaints}

-- all units are in, and the buffer has the length of a block
pub record WholeAndSized (w : OpenWriter) (block : List ℕ) : Type 0 where
  pub whole : w.added ≡ (layout_for w.settings).units
  pub sized : length block ≡ 120 * w.settings.size

-- the block with parameters and starts written
abbrev pub with_header : OpenWriter → List ℕ → List ℕ
with_header w block =
    let l = layout_for w.settings in
    take 2 block ++ (parameter_byte w.settings.parameters ∷ (packed (digits (take (l.units - 1) (drop 1 w.starts))) ++ drop l.header_length block))

-- the block with the check behind each unit written
abbrev pub with_unit_checks : OpenWriter → List ℕ → List ℕ
with_unit_checks w block =
    take (layout_for w.settings).header_length block
    ++ (checked_units (units_in w.starts w.added block) ++ drop (110 * w.settings.size) block)

-- the units fill the super frame; or the first refusal
abbrev pub Admits : Settings → List (List ℕ) → Result Unit Refusal → Type 0
Admits s units answer = Answers (making_complaints s units) (λ _. Fill s units) answer

-- The checks of each row are filled, and no other byte is written.
abbrev pub RowsFilled : ℕ → List ℕ → List ℕ → Type 0
RowsFilled size before after = ChecksFilled size 120 10 before after
