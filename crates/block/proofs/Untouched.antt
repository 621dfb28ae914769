-- A block whose rows are all codewords is repaired to itself.
use Rattle.std.proofs.Common.{◌≡◌, ◌≢◌, ℕ, suc, ◌*◌, ◌<◌, ◌≤◌, true, cond, leb, List, length, get_or, replicate, count_by, position, is_none, Some, None, Option, sym, refl, ap, ◌∙◌, subst, ⊎_elim, arith, leb-true, le-ltb}
use lib.ListN.{length-map}
use Rattle.std.proofs.lemmas.Bool.{cases_lt, and_parts}
use Rattle.std.proofs.lemmas.List.{get_or-replicate, length-replicate}
use Rattle.std.proofs.lemmas.List.Folds.{sum_by-replicate}
use Rattle.std.proofs.lemmas.List.Sums.{position_or_len_is}
use Rattle.std.specs.List.{position_or_len}
use Rattle.gf.specs.Bits.{Bits, bits}
use Rattle.gf.specs.Fields.{gf256}
use Rattle.gf.specs.laws.FieldLaws.{laws256}
use Rattle.codes.specs.Codewords.{code_shape, distance, Codeword, Corrected}
use Rattle.codes.proofs.TakenOff.{distance-same}
use Rattle.codes.proofs.Words.{minimum_distance}
use Rattle.interleaver.specs.Rows.{row_of, elements, RowRepaired, BlockRepaired, AllCodewords}
use Rattle.block.specs.Laws.{untouched}
use Rattle.interleaver.proofs.Places.{length-row_of}

-- a codeword is corrected to itself
corrected : (checks : ℕ) (row : List ℕ) → length row ≤ gf256.reach → Codeword gf256 checks (elements row)
    → Corrected gf256 (bits 8) checks row row 0
corrected checks row fit c = record {
  long = refl;
  codeword = c;
  counted = sym (distance-same laws256 (elements row));
  few = omega arith;
  kept = λ j s e. refl;
  only = far;
}
  where
    long : length (elements row) ≡ length row
    long = length-map row (bits 8)

    far : (other : List (Bits 8)) → length other ≡ length row → Codeword gf256 checks other → (other ≢ elements row)
        → checks < distance gf256 (elements row) other * 2
    far other e d differs =
        ⊎_elim (λ (h : checks < distance gf256 (elements row) other * 2). h)
        (λ (h : distance gf256 (elements row) other * 2 ≤ checks). absurd (differs (sym
        (minimum_distance laws256 checks (elements row) other (long ∙ sym e) (omega (arith, long)) c d (omega arith)))))
        (cases_lt checks (distance gf256 (elements row) other * 2))

-- no row is left

abbrev none_changed : Option ℕ
none_changed = Some 0

abbrev corrected_all : ℕ → List (Option ℕ)
corrected_all rows = replicate rows none_changed

none_left : (rows : ℕ) → count_by is_none (corrected_all rows) ≡ 0
none_left rows = sum_by-replicate (λ o. cond (is_none o) 1 0) rows none_changed ∙ omega arith

no_lowest : (rows : ℕ) → position is_none (corrected_all rows) ≡ None
no_lowest rows = ap (λ b. cond b (Some (position_or_len is_none (corrected_all rows))) None) (le-ltb _ _ (omega (arith, behind)))
  where
    behind : position_or_len is_none (corrected_all rows) ≡ length (corrected_all rows)
    behind =
        position_or_len_is is_none (corrected_all rows) (length (corrected_all rows)) None (omega arith)
        (λ k h. ap is_none (get_or-replicate rows k none_changed None (omega (arith, length-replicate rows none_changed)))) (λ h. absurd (omega arith))

pub repaired-untouched : (rows symbols checks : ℕ) (block : List ℕ) → code_shape gf256 symbols checks ≡ true
    → AllCodewords rows symbols checks block → BlockRepaired rows symbols checks block block untouched
repaired-untouched rows symbols checks block shape all = record {
  long = refl;
  outcomes = corrected_all rows;
  each = length-replicate rows none_changed;
  by_row = by_row;
  changed = sym (distance-same laws256 (elements block));
  left = sym (none_left rows);
  lowest = sym (no_lowest rows);
}
  where
    row : ℕ → List ℕ
    row = row_of rows symbols block

    fit : symbols ≤ gf256.reach
    fit =
        let a = and_parts (leb 1 checks) _ shape in
        let b = and_parts (leb checks 16) _ a.1 in
        let c = and_parts (leb (suc checks) symbols) _ b.1 in
        leb-true symbols gf256.reach (and_parts (leb symbols gf256.reach) _ c.1).0

    by_row : (i : ℕ) → i < rows → RowRepaired checks (row i) (row i) (get_or (corrected_all rows) i None)
    by_row i h =
        subst (RowRepaired checks (row i) (row i)) (sym (get_or-replicate rows i none_changed None h))
        (corrected checks (row i) (omega (arith, length-row_of rows symbols block i, fit)) (all i h))
