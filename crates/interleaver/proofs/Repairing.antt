-- What follows from what became of the rows: a block is repaired in one way, and few wrong bytes in each row are corrected.
use Rattle.std.proofs.Common.{◌≡◌, ℕ, ◌*◌, ◌<◌, ◌≤◌, true, false, List, length, get_or, Option, Some, None, is_none, sym, refl, ap, ◌∙◌, subst, ap₂, ⊎_elim, arith}
use lib.ListN.{length-map}
use Rattle.std.specs.List.{count_by, position}
use Rattle.std.proofs.lemmas.Bool.{cases_lt}
use Rattle.std.proofs.lemmas.List.{ext_get_or, get_or_past}
use Rattle.gf.specs.Bits.{Bits, bits}
use Rattle.gf.specs.Fields.{gf256}
use Rattle.gf.specs.laws.FieldLaws.{laws256}
use Rattle.codes.specs.Codewords.{code_shape, distance, Corrected, Codeword}
use Rattle.codes.proofs.Shapes.{code_sizes}
use Rattle.codes.proofs.Words.{unique}
use Rattle.interleaver.specs.declared.repair.Repair.{Repair}
use Rattle.interleaver.specs.Rows.{row_of, elements, wrong, RowRepaired, AreBytes, RepairedOnce, FewWrongCorrected}
use Rattle.interleaver.proofs.Bytes.{same_bytes}
use Rattle.interleaver.proofs.Lists.{count_by_none, position_none}
use Rattle.interleaver.proofs.Places.{length-row_of, get_or-row_of, rows_decide}

pub AreBytes-row_of : (rows symbols : ℕ) (block : List ℕ) (row : ℕ) → AreBytes block → AreBytes (row_of rows symbols block row)
AreBytes-row_of rows symbols block row h k =
    ⊎_elim
    (λ (b : k < symbols). subst (λ (n : ℕ). n < 256) (sym (get_or-row_of rows symbols block row k b)) (h _))
    (λ (b : symbols ≤ k).
    omega (arith, get_or_past (row_of rows symbols block row) k 0 (omega (arith, length-row_of rows symbols block row))))
    (cases_lt k symbols)

-- a corrected row means the codeword that is near
corrected_near : (checks : ℕ) (before after : List ℕ) (count : ℕ) (other : List (Bits 8)) → length before ≤ 255
    → Corrected gf256 (bits 8) checks before after count → length other ≡ length before → Codeword gf256 checks other
    → distance gf256 (elements before) other * 2 ≤ checks → elements after ≡ other
corrected_near checks before after count other n w e c near =
    unique laws256 checks (elements before) (elements after) other (length-map after (bits 8) ∙ w.long ∙ sym (length-map before (bits 8)))
    (e ∙ sym (length-map before (bits 8))) (omega (arith, length-map before (bits 8))) w.codeword c (omega (arith, w.counted, w.few)) near

-- a row has one outcome
pub row_once : (checks : ℕ) (before after after′ : List ℕ) (outcome outcome′ : Option ℕ) → length before ≤ 255
    → RowRepaired checks before after outcome → RowRepaired checks before after′ outcome′
    → (elements after ≡ elements after′) × (outcome ≡ outcome′)
row_once checks before after after′ None None n w w′ = (ap elements (w.same ∙ sym w′.same), refl)
row_once checks before after after′ None (Some count′) n w w′ =
    absurd (omega (arith, w.none (elements after′) (length-map after′ (bits 8) ∙ w′.long) w′.codeword, w′.counted, w′.few))
row_once checks before after after′ (Some count) None n w w′ =
    absurd (omega (arith, w′.none (elements after) (length-map after (bits 8) ∙ w.long) w.codeword, w.counted, w.few))
row_once checks before after after′ (Some count) (Some count′) n w w′ =
    let e = corrected_near checks before after count (elements after′) n w (length-map after′ (bits 8) ∙ w′.long) w′.codeword
    (omega (arith, w′.counted, w′.few)) in
    (e, ap Some (w.counted ∙ ap (distance gf256 (elements before)) e ∙ sym w′.counted))

-- a row with few wrong bytes is not left, and becomes the codeword that was written
row_few : (checks : ℕ) (received written after : List ℕ) (outcome : Option ℕ) → length received ≤ 255 → length written ≡ length received
    → Codeword gf256 checks (elements written) → wrong received written * 2 ≤ checks → RowRepaired checks received after outcome
    → (elements after ≡ elements written) × (is_none outcome ≡ false)
row_few checks received written after None n e c near w =
    absurd (omega (arith, w.none (elements written) (length-map written (bits 8) ∙ e) c))
row_few checks received written after (Some count) n e c near w =
    (corrected_near checks received after count (elements written) n w (length-map written (bits 8) ∙ e) c near, refl)

-- what a repair answered
abbrev pub answered : ℕ → ℕ → Option ℕ → Repair
answered changed rows_left lowest_left = record { changed = changed; rows_left = rows_left; lowest_left = lowest_left }

pub same_repair : (repair repair′ : Repair) → repair.changed ≡ repair′.changed → repair.rows_left ≡ repair′.rows_left
    → repair.lowest_left ≡ repair′.lowest_left → repair ≡ repair′
same_repair repair repair′ a b c =
    ap₂ (λ (n m : ℕ). answered n m repair.lowest_left) a b ∙ ap (answered repair′.changed repair′.rows_left) c

module _ (rows symbols checks : ℕ) (shape : code_shape gf256 symbols checks ≡ true) where
  abbrev row : List ℕ → ℕ → List ℕ
  row block i = row_of rows symbols block i

  pub short : (block : List ℕ) (i : ℕ) → length (row block i) ≤ 255
  short block i = omega (arith, length-row_of rows symbols block i, (code_sizes gf256 symbols checks shape).3)

  -- blocks of bytes whose rows mean the same are the same
  same_blocks : (block other : List ℕ) → length block ≡ rows * symbols → length other ≡ rows * symbols → AreBytes block → AreBytes other
      → ((i : ℕ) → i < rows → elements (row block i) ≡ elements (row other i)) → block ≡ other
  same_blocks block other long sized bytes bytes′ same =
      rows_decide rows symbols block other long sized
      (λ i h. same_bytes (row block i) (row other i) (AreBytes-row_of rows symbols block i bytes) (AreBytes-row_of rows symbols other i bytes′)
      (same i h))

  pub repaired_once : RepairedOnce rows symbols checks
  repaired_once before after after′ repair repair′ long bytes bytes′ r r′ = (
    same,
    same_repair repair repair′ (r.changed ∙ ap (wrong before) same ∙ sym r′.changed)
        (r.left ∙ ap (count_by is_none) outcomes ∙ sym r′.left) (r.lowest ∙ ap (position is_none) outcomes ∙ sym r′.lowest),
  )
    where
      by_row : (i : ℕ) → i < rows
          → (elements (row after i) ≡ elements (row after′ i)) × (get_or r.outcomes i None ≡ get_or r′.outcomes i None)
      by_row i h =
          row_once checks (row before i) (row after i) (row after′ i) (get_or r.outcomes i None) (get_or r′.outcomes i None) (short before i)
          (r.by_row i h) (r′.by_row i h)

      same : after ≡ after′
      same = same_blocks after after′ (r.long ∙ long) (r′.long ∙ long) bytes bytes′ (λ i h. (by_row i h).0)

      outcomes : r.outcomes ≡ r′.outcomes
      outcomes = ext_get_or None r.outcomes r′.outcomes (r.each ∙ sym r′.each) (λ i h. (by_row i (omega (arith, r.each))).1)

  pub few_wrong_corrected : FewWrongCorrected rows symbols checks
  few_wrong_corrected received written after repair long sized bytes bytes′ codewords near r = (
    same,
    same_repair repair (answered (wrong received written) 0 None) (r.changed ∙ ap (wrong received) same)
        (r.left ∙ count_by_none is_none r.outcomes None none) (r.lowest ∙ position_none is_none r.outcomes None none),
  )
    where
      by_row : (i : ℕ) → i < rows → (elements (row after i) ≡ elements (row written i)) × (is_none (get_or r.outcomes i None) ≡ false)
      by_row i h =
          row_few checks (row received i) (row written i) (row after i) (get_or r.outcomes i None) (short received i)
          (length-row_of rows symbols written i ∙ sym (length-row_of rows symbols received i)) (codewords i h) (near i h) (r.by_row i h)

      same : after ≡ written
      same = same_blocks after written (r.long ∙ long) sized bytes bytes′ (λ i h. (by_row i h).0)

      none : (k : ℕ) → k < length r.outcomes → is_none (get_or r.outcomes k None) ≡ false
      none k h = (by_row k (omega (arith, r.each))).1
