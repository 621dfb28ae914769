-- Every block of bytes has a repaired one, and one with few wrong bytes in each row has the one that was written.
use Rattle.std.proofs.Common.{◌≡◌, ℕ, zero, suc, ◌+◌, ◌*◌, ◌/◌, ◌%◌, ◌<◌, ◌≤◌, Bool, true, false, List, map, length, get_or, Option, Some, None, is_none, sym, refl, ap, ◌∙◌, subst, ap₂, lit<, inl, inr, zero-add, arith}
use lib.ListN.{length-map}
use Rattle.std.proofs.Math.Decide.{map_dec}
use Rattle.std.specs.List.{range_with_len, count_by, position}
use Rattle.std.proofs.lemmas.Bool.{cases_lt}
use Rattle.std.proofs.lemmas.Nat.{div-mul-add, mod-mul-add}
use Rattle.std.proofs.lemmas.List.{get_or_past, get_or_default}
use Rattle.std.proofs.lemmas.List.FromFn.{length-map-range_with_len, get_or-map-range_with_len}
use Rattle.gf.specs.Bits.{Bits, bits, number}
use Rattle.gf.specs.Fields.{gf256}
use Rattle.gf.specs.laws.FieldLaws.{laws256}
use Rattle.codes.specs.Codewords.{code_shape, distance, Corrected, Codeword}
use Rattle.codes.proofs.NearWords.{Searched, IsNear, dec_near}
use Rattle.codes.proofs.Shapes.{code_sizes}
use Rattle.codes.proofs.Words.{unique}
use Rattle.interleaver.specs.Rows.{place_of, row_of, elements, wrong, RowRepaired, BlockRepaired, AreBytes, AllCodewords, RepairedSomehow}
use Rattle.interleaver.proofs.Bytes.{same_byte, elements-number, bytes-number}
use Rattle.interleaver.proofs.Lists.{count_by_none, position_none}
use Rattle.interleaver.proofs.Places.{place_within, length-row_of, row_is}
use Rattle.interleaver.proofs.Repairing.{AreBytes-row_of, answered, same_repair, short}

-- rows of bits can be searched
bits_searched : (k : ℕ) → Searched (Bits k)
bits_searched zero Q d = map_dec (λ q. (tt, q)) (λ p. p.1) (d tt)
bits_searched (suc k) Q d = by (bits_searched k (λ u. Q (true, u)) (λ u. d (true, u))) (bits_searched k (λ u. Q (false, u)) (λ u. d (false, u)))
  where
    by : Dec ((u : Bits k) × Q (true, u)) → Dec ((u : Bits k) × Q (false, u)) → Dec ((u : Bits (suc k)) × Q u)
    by (yes p) e = yes ((true, p.0), p.1)
    by (no h) (yes p) = yes ((false, p.0), p.1)
    by (no h) (no m) = no (λ p. neither p.0.0 p.0.1 p.1)
      where
        neither : (b : Bool) (u : Bits k) → Q (b, u) → ⊥
        neither true u q = h (u, q)
        neither false u q = m (u, q)

-- a codeword with few wrong bytes is what the row is corrected to
near_corrected : (checks : ℕ) (before after : List ℕ) → length before ≤ 255 → length after ≡ length before → AreBytes before → AreBytes after
    → Codeword gf256 checks (elements after) → wrong before after * 2 ≤ checks → Corrected gf256 (bits 8) checks before after (wrong before after)
near_corrected checks before after n e h k c near = record {
  long = e;
  codeword = c;
  counted = refl;
  few = near;
  kept = kept;
  only = only;
}
  where
    kept : (j s : ℕ) → bits 8 (get_or before j s) ≡ bits 8 (get_or after j s) → get_or before j s ≡ get_or after j s
    kept j s m =
        elim (cases_lt j (length before)) [
          | inl b ↦
              let x = get_or_default before j s 0 b in
              let y = get_or_default after j s 0 (omega arith) in
              x ∙ same_byte (get_or before j 0) (get_or after j 0) (h j) (k j) (sym (ap (bits 8) x) ∙ m ∙ ap (bits 8) y) ∙ sym y
          | inr b ↦ get_or_past before j s b ∙ sym (get_or_past after j s (omega arith))
        ]

    only : (other : List (Bits 8)) → length other ≡ length before → Codeword gf256 checks other → (other ≡ elements after → ⊥)
        → checks < distance gf256 (elements before) other * 2
    only other w d differs =
        elim (cases_lt checks (distance gf256 (elements before) other * 2)) [
          | inl far ↦ far
          | inr close ↦
              absurd (differs (unique laws256 checks (elements before) other (elements after) (w ∙ sym (length-map before (bits 8)))
              (length-map after (bits 8) ∙ e ∙ sym (length-map before (bits 8))) (omega (arith, length-map before (bits 8))) d c close near))
        ]

-- a row after its repair, and what became of it
record RowSomehow (checks : ℕ) (before : List ℕ) : Type 0 where
  after : List ℕ
  outcome : Option ℕ
  long : length after ≡ length before
  bytes : AreBytes after
  repaired : RowRepaired checks before after outcome

row_somehow : (checks : ℕ) (before : List ℕ) → checks ≤ 16 → length before ≤ 255 → AreBytes before → RowSomehow checks before
row_somehow checks before few n h = by (dec_near laws256 (bits_searched 8) checks (elements before) (omega arith))
  where
    corrected : IsNear gf256 checks (elements before) → RowSomehow checks before
    corrected c =
        let after = map (number 8) c.0 in
        let long : length after ≡ length before = length-map c.0 (number 8) ∙ c.1 ∙ length-map before (bits 8) in
        let same : elements after ≡ c.0 = elements-number c.0 in
        record {
          after = after;
          outcome = Some (wrong before after);
          long = long;
          bytes = bytes-number c.0;
          repaired =
              near_corrected checks before after n long h (bytes-number c.0) (subst (Codeword gf256 checks) (sym same) c.2.0)
              (subst (λ w. distance gf256 (elements before) w * 2 ≤ checks) (sym same) c.2.1);
        }

    left : (IsNear gf256 checks (elements before) → ⊥) → RowSomehow checks before
    left none = record {
      after = before;
      outcome = None;
      long = refl;
      bytes = h;
      repaired =
          record {
            none = λ other e c.
                elim (cases_lt checks (distance gf256 (elements before) other * 2)) [
                  | inl far ↦ far
                  | inr close ↦ absurd (none (other, e ∙ sym (length-map before (bits 8)), (c, close)))
                ];
            same = refl;
          };
    }

    by : Dec (IsNear gf256 checks (elements before)) → RowSomehow checks before
    by (yes c) = corrected c
    by (no none) = left none

-- a block made of its rows

module _ (rows symbols : ℕ) (word : ℕ → List ℕ) where
  abbrev byte : ℕ → ℕ
  byte k = get_or (word (k % rows)) (k / rows) 0

  abbrev block_of : List ℕ
  block_of = map byte (range_with_len 0 (rows * symbols))

  length-block_of : length block_of ≡ rows * symbols
  length-block_of = length-map-range_with_len byte 0 (rows * symbols)

  get_or-block_of : (k : ℕ) → k < rows * symbols → get_or block_of k 0 ≡ byte k
  get_or-block_of k h = get_or-map-range_with_len byte 0 (rows * symbols) k k 0 h (zero-add k)

  AreBytes-block_of : ((i : ℕ) → AreBytes (word i)) → AreBytes block_of
  AreBytes-block_of h k =
      elim (cases_lt k (rows * symbols)) [
        | inl b ↦ subst (λ (n : ℕ). n < 256) (sym (get_or-block_of k b)) (h (k % rows) (k / rows))
        | inr b ↦ subst (λ (n : ℕ). n < 256) (sym (get_or_past block_of k 0 (omega (arith, length-block_of)))) (lit< tt)
      ]

  row_of-block_of : (i : ℕ) → i < rows → length (word i) ≡ symbols → row_of rows symbols block_of i ≡ word i
  row_of-block_of i h e = sym (row_is rows symbols block_of (word i) i e at)
    where
      at : (column : ℕ) → column < symbols → get_or (word i) column 0 ≡ get_or block_of (place_of rows i column) 0
      at column k =
          let place : column * rows + i ≡ place_of rows i column = omega arith in
          ap₂ (λ (row column : ℕ). get_or (word row) column 0) (sym (mod-mul-add column rows i h)) (sym (div-mul-add column rows i h))
          ∙ ap byte place ∙ sym (get_or-block_of (place_of rows i column) (place_within rows symbols i column h k))

module _ (rows symbols checks : ℕ) where
  -- a block whose rows are repaired is repaired
  rows_repaired : (before after : List ℕ) (outcome : ℕ → Option ℕ) → length after ≡ length before
      → ((i : ℕ) → i < rows → RowRepaired checks (row_of rows symbols before i) (row_of rows symbols after i) (outcome i))
      → (let outcomes : List (Option ℕ) = map outcome (range_with_len 0 rows) in
      BlockRepaired rows symbols checks before after (answered (wrong before after) (count_by is_none outcomes) (position is_none outcomes)))
  rows_repaired before after outcome e each = record {
    long = e;
    outcomes = map outcome (range_with_len 0 rows);
    each = length-map-range_with_len outcome 0 rows;
    by_row = λ i h.
        subst (RowRepaired checks (row_of rows symbols before i) (row_of rows symbols after i))
        (sym (get_or-map-range_with_len outcome 0 rows i i None h (zero-add i))) (each i h);
    changed = refl;
    left = refl;
    lowest = refl;
  }

  module _ (shape : code_shape gf256 symbols checks ≡ true) where
    pub repaired_somehow : RepairedSomehow rows symbols checks
    repaired_somehow before long bytes = (
      after,
      answered (wrong before after) (count_by is_none outcomes) (position is_none outcomes),
      AreBytes-block_of rows symbols (λ i. (row i).after) (λ i. (row i).bytes),
      rows_repaired before after (λ i. (row i).outcome) (length-block_of rows symbols (λ i. (row i).after) ∙ sym long)
          (λ i h. subst (λ w. RowRepaired checks (row_of rows symbols before i) w (row i).outcome)
          (sym (row_of-block_of rows symbols (λ i. (row i).after) i h ((row i).long ∙ length-row_of rows symbols before i))) (row i).repaired),
    )
      where
        row : (i : ℕ) → RowSomehow checks (row_of rows symbols before i)
        row i =
            row_somehow checks (row_of rows symbols before i) (code_sizes gf256 symbols checks shape).1 (short rows symbols checks shape before i)
            (AreBytes-row_of rows symbols before i bytes)

        after : List ℕ
        after = block_of rows symbols (λ i. (row i).after)

        outcomes : List (Option ℕ)
        outcomes = map (λ i. (row i).outcome) (range_with_len 0 rows)

    -- a block with few wrong bytes in each row is repaired to the one that was written
    pub few_wrong_repaired : (received written : List ℕ) → length received ≡ rows * symbols → length written ≡ rows * symbols
        → AreBytes received → AreBytes written → AllCodewords rows symbols checks written
        → ((i : ℕ) → i < rows → wrong (row_of rows symbols received i) (row_of rows symbols written i) * 2 ≤ checks)
        → BlockRepaired rows symbols checks received written (answered (wrong received written) 0 None)
    few_wrong_repaired received written long sized bytes bytes′ codewords near =
        subst (BlockRepaired rows symbols checks received written)
        (same_repair _ _ refl (count_by_none is_none outcomes None none) (position_none is_none outcomes None none))
        (rows_repaired received written outcome (sized ∙ sym long) each)
      where
        outcome : ℕ → Option ℕ
        outcome i = Some (wrong (row_of rows symbols received i) (row_of rows symbols written i))

        outcomes : List (Option ℕ)
        outcomes = map outcome (range_with_len 0 rows)

        none : (k : ℕ) → k < length outcomes → is_none (get_or outcomes k None) ≡ false
        none k h =
            ap is_none (get_or-map-range_with_len outcome 0 rows k k None (omega (arith, length-map-range_with_len outcome 0 rows)) (zero-add k))

        each : (i : ℕ) → i < rows → RowRepaired checks (row_of rows symbols received i) (row_of rows symbols written i) (outcome i)
        each i h =
            near_corrected checks (row_of rows symbols received i) (row_of rows symbols written i) (short rows symbols checks shape received i)
            (length-row_of rows symbols written i ∙ sym (length-row_of rows symbols received i)) (AreBytes-row_of rows symbols received i bytes)
            (AreBytes-row_of rows symbols written i bytes′) (codewords i h) (near i h)
