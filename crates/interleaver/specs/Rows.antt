-- The rows of a block, and what filling their checks and correcting them does.
use Rattle.std.specs.Prelude.{◌≡◌, ℕ, ◌+◌, ◌-◌, ◌*◌, ◌<◌, ◌≤◌, Bool, not, List, [], ◌∷◌, map, length, take, Some, None, Option, MatchOption, is_none, slice_index, slice_index_or, count_by, position}
use Rattle.std.specs.List.{range_with_len}
use Rattle.gf.specs.declared.refusal.Refusal.{Refusal}
use Rattle.gf.specs.declared.refusal.Refusal.TheVariants.{Shape}
use Rattle.gf.specs.Bits.{Bits, bits}
use Rattle.gf.specs.Fields.{gf256}
use Rattle.gf.specs.Refusals.{of_size}
use Rattle.codes.specs.Codewords.{code_shape, distance, Codeword, Filled, Corrected, Beyond}
use Rattle.interleaver.specs.declared.repair.Repair.{Repair}

-- where byte `column` of row `row` stands in a block of so many rows
abbrev pub place_of : ℕ → ℕ → ℕ → ℕ
place_of rows row column = row + rows * column

-- Row `row` of a block whose rows have so many bytes.
abbrev pub row_of : ℕ → ℕ → List ℕ → ℕ → List ℕ
row_of rows symbols block row = map (λ column. slice_index block (place_of rows row column)) (range_with_len 0 symbols)

-- Every byte of a block stands in exactly one row and column.
pub record OneRowAndColumn (rows symbols : ℕ) : Type 0 where
  pub within : (row column : ℕ) → row < rows → column < symbols → place_of rows row column < rows * symbols
  pub some : (k : ℕ) → k < rows * symbols
      → (row : ℕ) × (column : ℕ) × (row < rows) × (column < symbols) × (place_of rows row column ≡ k)
  pub one : (row column row′ column′ : ℕ) → row < rows → row′ < rows → place_of rows row column ≡ place_of rows row′ column′
      → (row ≡ row′) × (column ≡ column′)

-- the refusals of a layout: the number of rows is not 1 to 24, or the check code has no words of this shape
abbrev pub layout_complaints : ℕ → ℕ → ℕ → List (Bool × Refusal)
layout_complaints rows symbols checks = of_size rows ((not (code_shape gf256 symbols checks), Shape) ∷ [])

-- the elements that bytes mean
abbrev pub elements : List ℕ → List (Bits 8)
elements bytes = map (bits 8) bytes

-- In how many bytes two blocks of one length differ.
abbrev pub wrong : List ℕ → List ℕ → ℕ
wrong block other = distance gf256 (elements block) (elements other)

-- A row was corrected, with so many bytes changed; or, with none said, it is left as it was, since no codeword is near enough.
abbrev pub RowRepaired : ℕ → List ℕ → List ℕ → Option ℕ → Type 0
RowRepaired checks before after outcome =
    MatchOption outcome (Beyond gf256 (bits 8) checks before after) (λ count. Corrected gf256 (bits 8) checks before after count)

-- Repairing a block: each row is corrected, or left as it was.
pub record BlockRepaired (rows symbols checks : ℕ) (before after : List ℕ) (repair : Repair) : Type 0 where
  pub long : length after ≡ length before
  -- what became of each row
  pub outcomes : List (Option ℕ)
  pub each : length outcomes ≡ rows
  pub by_row : (i : ℕ) → i < rows
      → RowRepaired checks (row_of rows symbols before i) (row_of rows symbols after i) (slice_index_or outcomes i None)
  pub changed : repair.changed ≡ wrong before after
  pub left : repair.rows_left ≡ count_by is_none outcomes
  pub lowest : repair.lowest_left ≡ position is_none outcomes

-- what a repair answers that leaves no row
abbrev pub all_corrected : ℕ → Repair
all_corrected changed = record { changed = changed; rows_left = 0; lowest_left = None }

-- A repair that stopped at the first row that no codeword is near enough to: the rows before it are corrected, and the others are as they
-- were.
pub record RepairStopped (rows symbols checks : ℕ) (before after : List ℕ) : Type 0 where
  pub long : length after ≡ length before
  pub first_left : ℕ
  pub within : first_left < rows
  pub corrected : (i : ℕ) → i < first_left
      → (count : ℕ) × RowRepaired checks (row_of rows symbols before i) (row_of rows symbols after i) (Some count)
  pub left : RowRepaired checks (row_of rows symbols before first_left) (row_of rows symbols after first_left) None
  pub rest : (i : ℕ) → first_left < i → i < rows → row_of rows symbols after i ≡ row_of rows symbols before i

-- Every row of the block is corrected, with so many bytes changed; or, with none said, the repair has stopped.
abbrev pub RepairedOrStopped : ℕ → ℕ → ℕ → List ℕ → List ℕ → Option ℕ → Type 0
RepairedOrStopped rows symbols checks before after outcome =
    MatchOption outcome (RepairStopped rows symbols checks before after)
    (λ changed. BlockRepaired rows symbols checks before after (all_corrected changed))

-- Filling the checks of a block: each row's checks are those of its data, and no other byte is written.
pub record ChecksFilled (rows symbols checks : ℕ) (before after : List ℕ) : Type 0 where
  pub long : length after ≡ length before
  pub data_kept : take (rows * (symbols - checks)) after ≡ take (rows * (symbols - checks)) before
  pub by_row : (i : ℕ) → i < rows → Filled gf256 (bits 8) checks (row_of rows symbols before i) (row_of rows symbols after i)

-- numbers that are bytes
abbrev pub AreBytes : List ℕ → Type 0
AreBytes block = (k : ℕ) → slice_index block k < 256

-- all rows of the block are codewords
abbrev pub AllCodewords : ℕ → ℕ → ℕ → List ℕ → Type 0
AllCodewords rows symbols checks block = (i : ℕ) → i < rows → Codeword gf256 checks (elements (row_of rows symbols block i))

-- Two blocks with the same rows are the same.
abbrev pub RowsDecide : ℕ → ℕ → Type 0
RowsDecide rows symbols =
    (block other : List ℕ) → length block ≡ rows * symbols → length other ≡ rows * symbols
    → ((i : ℕ) → i < rows → row_of rows symbols block i ≡ row_of rows symbols other i) → block ≡ other

-- A block is repaired in one way.
abbrev pub RepairedOnce : ℕ → ℕ → ℕ → Type 0
RepairedOnce rows symbols checks =
    (before after after′ : List ℕ) (repair repair′ : Repair) → length before ≡ rows * symbols → AreBytes after → AreBytes after′
    → BlockRepaired rows symbols checks before after repair → BlockRepaired rows symbols checks before after′ repair′
    → (after ≡ after′) × (repair ≡ repair′)

-- Every block of bytes has a repaired one.
abbrev pub RepairedSomehow : ℕ → ℕ → ℕ → Type 0
RepairedSomehow rows symbols checks =
    (before : List ℕ) → length before ≡ rows * symbols → AreBytes before
    → (after : List ℕ) × (repair : Repair) × AreBytes after × BlockRepaired rows symbols checks before after repair

-- A block that differs from one whose rows are all codewords in at most half as many bytes of each row as a row has checks is repaired to
-- that one, with no row left, and the bytes changed are those in which it differs.
abbrev pub FewWrongCorrected : ℕ → ℕ → ℕ → Type 0
FewWrongCorrected rows symbols checks =
    (received written after : List ℕ) (repair : Repair) → length received ≡ rows * symbols → length written ≡ rows * symbols
    → AreBytes after → AreBytes written → AllCodewords rows symbols checks written
    → ((i : ℕ) → i < rows → wrong (row_of rows symbols received i) (row_of rows symbols written i) * 2 ≤ checks)
    → BlockRepaired rows symbols checks received after repair
    → (after ≡ written) × (repair ≡ record { changed = wrong received written; rows_left = 0; lowest_left = None })
