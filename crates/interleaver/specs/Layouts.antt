-- What the calls of a layout answer.
use Rattle.std.specs.Prelude.{◌≡◌, ℕ, ◌*◌, Bool, not, List, [], ◌∷◌, length, Option, Result, ◌==◌}
use Rattle.gf.specs.declared.refusal.Refusal.{Refusal}
use Rattle.gf.specs.declared.refusal.Refusal.TheVariants.{Buffer}
use Rattle.gf.specs.Refusals.{Performs}
use Rattle.interleaver.specs.declared.layout.RowLayout.{RowLayout}
use Rattle.interleaver.specs.declared.repair.Repair.{Repair}
use Rattle.interleaver.specs.Rows.{BlockRepaired, RepairedOrStopped, ChecksFilled}

-- how many rows a block has, how many bytes each row, and how many of them are checks
abbrev pub rows_of : RowLayout → ℕ
rows_of l = l.rows

abbrev pub symbols_of : RowLayout → ℕ
symbols_of l = l.symbols

abbrev pub checks_of : RowLayout → ℕ
checks_of l = l.checks

-- the refusal of every call that works on a block: the buffer has not so many rows of so many bytes
abbrev pub block_complaints : RowLayout → List ℕ → List (Bool × Refusal)
block_complaints l block = (not (length block == l.rows * l.symbols), Buffer) ∷ []

-- The block is repaired; or the buffer is refused, and is as it was.
abbrev pub Repairs : RowLayout → List ℕ → List ℕ → Result Repair Refusal → Type 0
Repairs l before after answer =
    Performs (block_complaints l before) (BlockRepaired l.rows l.symbols l.checks before after) (after ≡ before) answer

-- The block is repaired, or the repair stopped at a row; or the buffer is refused, and is as it was.
abbrev pub RepairsClean : RowLayout → List ℕ → List ℕ → Result (Option ℕ) Refusal → Type 0
RepairsClean l before after answer =
    Performs (block_complaints l before) (RepairedOrStopped l.rows l.symbols l.checks before after) (after ≡ before) answer

-- The checks of the block are filled; or the buffer is refused, and is as it was.
abbrev pub Fills : RowLayout → List ℕ → List ℕ → Result Unit Refusal → Type 0
Fills l before after answer =
    Performs (block_complaints l before) (λ _. ChecksFilled l.rows l.symbols l.checks before after) (after ≡ before) answer
