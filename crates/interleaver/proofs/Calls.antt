-- What the calls of the check code do to a row that is read from the block.
use Rattle.std.proofs.Common.{◌≡◌, ℕ, zero, suc, true, ◌&&◌, eq-eqb, Option, Some, None, Result, Ok, Err, MatchBool, List, ◌∷◌, map, length, sym, refl, ap, ◌∙◌, subst, ap₂}
use lib.ListN.{length-map, length-replicate, replicate}
use Rattle.std.specs.Result.{result_ok}
use Rattle.gf.specs.declared.refusal.Refusal.{Refusal}
use Rattle.gf.specs.declared.refusal.Refusal.TheVariants.{Shape}
use Rattle.gf.specs.declared.gf256.Gf256.{Gf256}
use Rattle.gf.specs.Theory.{Operations, Laws}
use Rattle.gf.specs.Bits.{Bits, bits}
use Rattle.gf.specs.Fields.{gf256}
use Rattle.gf.specs.laws.FieldLaws.{laws256}
use Rattle.gf.specs.laws.Numbers.{bits-zero}
use Rattle.codes.specs.Polynomials.{zeros}
use Rattle.codes.specs.Codewords.{all_zero, code_shape, work_shape, Shaped, Filled, Corrected, Beyond, Encoded, Outcome, Correction}
use Rattle.interleaver.specs.Rows.{row_of, RowRepaired}
use Rattle.interleaver.specs.steps.OneRow.{stored}
use Rattle.interleaver.proofs.Places.{length-row_of}
use Rattle.interleaver.proofs.Stored.{stored_filled, stored_beyond, stored_corrected, corrected_none}

module _ {E : Type 0} {f : Operations E} (l : Laws f) where
  all_zero-zeros : (n : ℕ) → all_zero f (zeros f n) ≡ true
  all_zero-zeros zero = refl
  all_zero-zeros (suc n) = ap₂ ◌&&◌ (l.equal_yes f.zero f.zero refl) (all_zero-zeros n)

  work_shape-zeros : work_shape f (zeros f 512) ≡ true
  work_shape-zeros = ap₂ ◌&&◌ (eq-eqb (length (zeros f 512)) 512 (length-replicate 512 f.zero)) (all_zero-zeros 512)

  -- a call whose word and work buffer have their shapes is not refused
  not_refused : {S A : Type 0} (mean : S → E) (r : ℕ) (before after work cleared : List S) (answer : Result A Refusal) (rest : Type 0)
      → code_shape f (length before) r ≡ true → map mean work ≡ zeros f 512 → Shaped f mean r before after work cleared answer rest → rest
  not_refused mean r before after work cleared answer rest shape none h =
      (subst (λ b. MatchBool b ((map mean cleared ≡ zeros f 512) × rest) ((answer ≡ Err Shape) × (after ≡ before) × (cleared ≡ work)))
      (ap₂ ◌&&◌ shape (ap (work_shape f) none ∙ work_shape-zeros)) h).1

-- the element that a symbol means, and the byte that it is stored as
abbrev meant : Gf256 → Bits 8
meant s = bits 8 s.0

abbrev byte : Gf256 → ℕ
byte s = s.0

-- a new work buffer is zeros
pub zero_work : (n : ℕ) → map meant (replicate n (record { 0 = 0 })) ≡ zeros gf256 n
zero_work zero = refl
zero_work (suc n) = ap₂ ◌∷◌ (bits-zero 8) (zero_work n)

stored_outcome : (r : ℕ) (before after : List Gf256) (answer : Result ℕ Refusal) → Outcome gf256 meant r before after answer
    → RowRepaired r (stored before) (stored after) (result_ok answer)
stored_outcome r before after (Ok count) w = stored_corrected gf256 (bits 8) byte r before after count (record { 0 = 0 }) w
stored_outcome r before after (Err refusal) w = stored_beyond gf256 (bits 8) byte r before after w.1

-- a row is read, a call writes the word, and the row and the work buffer had their shapes
module _ (rows symbols r row : ℕ) (block : List ℕ) (read written work cleared : List Gf256)
    (from : stored read ≡ row_of rows symbols block row) (shape : code_shape gf256 symbols r ≡ true) (none : map meant work ≡ zeros gf256 512) where
  read_shape : code_shape gf256 (length read) r ≡ true
  read_shape =
      ap (λ (n : ℕ). code_shape gf256 n r) (sym (length-map read byte) ∙ ap length from ∙ length-row_of rows symbols block row) ∙ shape

  pub row_filled : (answer : Result Unit Refusal) → Encoded gf256 meant r read written work cleared answer
      → Filled gf256 (bits 8) r (row_of rows symbols block row) (stored written)
  row_filled answer h =
      subst (λ v. Filled gf256 (bits 8) r v (stored written)) from
      (stored_filled gf256 (bits 8) byte r read written (not_refused laws256 meant r read written work cleared answer _ read_shape none h).1)

  pub row_repaired : (answer : Result ℕ Refusal) (outcome : Option ℕ) → outcome ≡ result_ok answer
      → Correction gf256 meant r read written work cleared answer → RowRepaired r (row_of rows symbols block row) (stored written) outcome
  row_repaired answer outcome e h =
      subst (λ v. RowRepaired r v (stored written) outcome) from
      (subst (RowRepaired r (stored read) (stored written)) (sym e)
      (stored_outcome r read written answer (not_refused laws256 meant r read written work cleared answer _ read_shape none h)))

-- a row that no codeword is near enough to has the bytes that it had
pub row_left : (r : ℕ) (before after : List ℕ) → RowRepaired r before after None → RowRepaired r before before None
row_left r before after w = subst (Beyond gf256 (bits 8) r before) w.same w

-- so has a row in which no byte has changed
pub row_unchanged : (r : ℕ) (before after : List ℕ) (count : ℕ) → count ≡ 0 → RowRepaired r before after (Some count)
    → RowRepaired r before before (Some count)
row_unchanged r before after count e w =
    subst (λ v. Corrected gf256 (bits 8) r before v count) (corrected_none laws256 (bits 8) r before after count e w) w
