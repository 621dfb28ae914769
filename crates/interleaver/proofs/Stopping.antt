-- A repair that stops at a row: where it does, that row is left by every repair.
use Rattle.std.proofs.Common.{◌≡◌, ℕ, ◌<◌, ◌≤◌, true, false, cond, List, get_or, Option, Some, None, is_none, sym, ap, arith}
use Rattle.std.proofs.lemmas.List.Quantifiers.{position-Some}
use Rattle.std.proofs.lemmas.List.Sums.{get_or-le-sum_by}
use Rattle.gf.specs.Fields.{gf256}
use Rattle.codes.specs.Codewords.{code_shape}
use Rattle.interleaver.specs.declared.repair.Repair.{Repair}
use Rattle.interleaver.specs.Rows.{row_of, RowRepaired, BlockRepaired, RepairStopped, all_corrected}
use Rattle.interleaver.specs.steps.OneRow.{OnlyRow}
use Rattle.interleaver.proofs.Progress.{RepairedTo, repaired_more}
use Rattle.interleaver.proofs.Repairing.{row_once, short}

-- a row with a number said was corrected, and one with none is left
corrected_row : (checks : ℕ) (before after : List ℕ) (outcome : Option ℕ) → is_none outcome ≡ false → RowRepaired checks before after outcome
    → (count : ℕ) × RowRepaired checks before after (Some count)
corrected_row checks before after None e w = cc
corrected_row checks before after (Some count) e w = (count, w)

left_row : (checks : ℕ) (before after : List ℕ) (outcome : Option ℕ) → is_none outcome ≡ true → RowRepaired checks before after outcome
    → RowRepaired checks before after None
left_row checks before after None e w = w
left_row checks before after (Some count) e w = cc

module _ (rows symbols checks : ℕ) where
  -- the rows before one are corrected, and that one is left
  pub stopped : (first : ℕ) (before now after : List ℕ) (changed : ℕ) → first < rows → checks ≤ 16
      → RepairedTo rows symbols checks first before now (all_corrected changed)
      → OnlyRow rows symbols first (row_of rows symbols after first) now after
      → RowRepaired checks (row_of rows symbols now first) (row_of rows symbols after first) None
      → RepairStopped rows symbols checks before after
  stopped first before now after changed within few p o w =
      let q = repaired_more rows symbols checks first before now after (all_corrected changed) None within few p o w in
      let at = position-Some is_none q.outcomes first None (sym q.lowest) in
      record {
        long = q.long;
        first_left = first;
        within = within;
        corrected = λ i h. corrected_row checks _ _ (get_or q.outcomes i None) (at.2 i h) (q.by_row i (omega arith));
        left = left_row checks _ _ (get_or q.outcomes first None) at.1 (q.by_row first (omega arith));
        rest = λ i h k. q.rest i (omega arith) k;
      }

  -- then no repair leaves no row
  pub some_left : (before after repaired : List ℕ) (repair : Repair) → code_shape gf256 symbols checks ≡ true
      → RepairStopped rows symbols checks before after → BlockRepaired rows symbols checks before repaired repair → 1 ≤ repair.rows_left
  some_left before after repaired repair shape s r =
      let same : None ≡ get_or r.outcomes s.first_left None =
      (row_once checks (row_of rows symbols before s.first_left) _ _ None (get_or r.outcomes s.first_left None)
      (short rows symbols checks shape before s.first_left) s.left (r.by_row s.first_left s.within)).1 in
      let count : Option ℕ → ℕ = λ outcome. cond (is_none outcome) 1 0 in
      omega (arith, r.left, ap count same, get_or-le-sum_by count r.outcomes s.first_left None (omega (arith, r.each, s.within)))
