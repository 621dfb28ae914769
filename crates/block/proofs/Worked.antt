-- The worked examples: each is computed, but that no other codeword is near the corrected row, which the minimum distance shows.
use Rattle.std.proofs.Common.{◌≡◌, ℕ, zero, suc, ◌+◌, ◌-◌, ◌*◌, ◌<◌, ◌≤◌, Bool, true, ◌&&◌, T, List, [], ◌∷◌, ◌++◌, length, get_or, take, drop, take_at, length-append, sym, refl, ap, subst, ◌∙◌, ltb, lit<, lit≤, ⊎_elim, arith}
use Rattle.std.proofs.lemmas.Bool.{cases_lt}
use Rattle.std.proofs.lemmas.List.{take-map}
use Rattle.gf.specs.Theory.{pow}
use Rattle.gf.specs.Bits.{Bits, bits, number, zeros, plus, equal, only, shift, out, times_x, times_row, times}
use Rattle.gf.specs.Fields.{low2, low16, low256, gf256}
use Rattle.gf.specs.laws.FieldLaws.{laws256}
use Rattle.gf.specs.laws.Tests.{and_left, and_right}
use Rattle.codes.specs.Codewords.{Codeword, checks_of, distance, Filled, Corrected}
use Rattle.codes.specs.Polynomials as polynomials
use Rattle.codes.proofs.Values.{value-zeros}
use Rattle.codes.proofs.Words.{syndromes_decide, unique}
use Rattle.interleaver.specs.Rows.{elements, row_of, AllCodewords}
use Rattle.interleaver.proofs.Bytes.{same_byte}
use Rattle.block.specs.Bytes.{unsigned}
use Rattle.block.specs.Checks.{byte_bits}
use Rattle.block.specs.Headers.{starts}
use Rattle.block.specs.Examples.{all_zeros, five_wrong, zeros_and_one, checks_of_one, WorkedExamples, ExamplesHold}

-- whether all of them are bytes
abbrev are_bytes : List ℕ → Bool
are_bytes [] = true
are_bytes (b ∷ bytes) = ltb b 256 && are_bytes bytes

-- bytes that mean the same element are the same
same_bytes : (xs ys : List ℕ) → length xs ≡ length ys → T (are_bytes xs) → T (are_bytes ys)
    → (j s : ℕ) → bits 8 (get_or xs j s) ≡ bits 8 (get_or ys j s) → get_or xs j s ≡ get_or ys j s
same_bytes [] [] l t u j s e = refl
same_bytes [] (y ∷ ys) l t u j s e = absurd (omega arith)
same_bytes (x ∷ xs) [] l t u j s e = absurd (omega arith)
same_bytes (x ∷ xs) (y ∷ ys) l t u zero s e = same_byte x y (lit< (and_left _ _ t)) (lit< (and_left _ _ u)) e
same_bytes (x ∷ xs) (y ∷ ys) l t u (suc j) s e = same_bytes xs ys (omega arith) (and_right _ _ t) (and_right _ _ u) j s e

-- zeros are a codeword
zeros_codeword : Codeword gf256 10 (polynomials.zeros gf256 120)
zeros_codeword =
    (syndromes_decide laws256 10 (polynomials.zeros gf256 120) (lit≤ tt)).1
    (λ i h. value-zeros laws256 (pow gf256 gf256.root i) 120)

zeros_elements : polynomials.zeros gf256 120 ≡ elements all_zeros
unfolding bits zeros
zeros_elements = refl

zeros_row : Codeword gf256 10 (elements all_zeros)
zeros_row = subst (Codeword gf256 10) zeros_elements zeros_codeword

-- the one row of the block
all_codewords : AllCodewords 1 120 10 all_zeros
all_codewords i h = subst (Codeword gf256 10) (zeros_elements ∙ ap elements (row_is i (omega arith))) zeros_codeword
  where
    row_is : (i : ℕ) → i ≡ 0 → all_zeros ≡ row_of 1 120 all_zeros i
    row_is i e = subst (λ (i : ℕ). all_zeros ≡ row_of 1 120 all_zeros i) (sym e) refl

-- the corrected row

five : 5 ≡ distance gf256 (elements five_wrong) (elements all_zeros)
unfolding bits equal
five = refl

-- no other codeword is as near
only_zeros : (other : List (Bits 8)) → length other ≡ 120 → Codeword gf256 10 other → (other ≡ elements all_zeros → ⊥)
    → 10 < distance gf256 (elements five_wrong) other * 2
only_zeros other e c d =
    ⊎_elim (λ (h : 10 < distance gf256 (elements five_wrong) other * 2). h)
    (λ (h : distance gf256 (elements five_wrong) other * 2 ≤ 10).
    absurd (d (unique laws256 10 (elements five_wrong) other (elements all_zeros) e refl (lit≤ tt) c zeros_row h (omega (arith, five)))))
    (cases_lt 10 (distance gf256 (elements five_wrong) other * 2))

corrected : Corrected gf256 (bits 8) 10 five_wrong all_zeros 5
corrected = record {
  long = refl;
  codeword = zeros_row;
  counted = five;
  few = lit≤ tt;
  kept = same_bytes five_wrong all_zeros refl tt tt;
  only = only_zeros;
}

-- filling writes the checks of the data
filled : (behind after : List ℕ) → length behind ≡ 10 → Filled gf256 (bits 8) 10 (zeros_and_one ++ behind) after
    → drop 110 (elements after) ≡ checks_of gf256 10 (elements zeros_and_one)
filled behind after e m =
    ap (λ (n : ℕ). drop (n - 10) (elements after)) (sym long) ∙ m.checks
    ∙ ap (checks_of gf256 10)
    (ap (λ (n : ℕ). take (n - 10) (elements (zeros_and_one ++ behind))) long ∙ take-map (bits 8) 110 (zeros_and_one ++ behind)
    ∙ ap elements (take_at zeros_and_one behind 110 refl))
  where
    long : length (zeros_and_one ++ behind) ≡ 120
    long = length-append zeros_and_one behind ∙ ap (λ (n : ℕ). 110 + n) e

checks256 : checks_of gf256 10 (elements zeros_and_one) ≡ elements checks_of_one
unfolding bits low2 low16 low256 number zeros plus only shift out times_x times_row times
checks256 = refl

pub worked_examples : WorkedExamples
unfolding bits low2 low16 low256 number zeros plus only shift out times_x times_row times byte_bits unsigned starts
worked_examples = record {
  product256 = refl;
  product16 = refl;
  checks16 = refl;
  checks256 = checks256;
  filled256 = λ behind after e m. filled behind after e m ∙ checks256;
  corrected = corrected;
  fire = refl;
  check_of_ones = refl;
  check_of_zeros = refl;
  zeros_codeword = all_codewords;
  zeros_fire = refl;
  zeros_units = refl;
  zeros_header = refl;
  starts_number = refl;
  starts_place = refl;
  right68 = refl;
  units68 = refl;
  refused78 = refl;
  parameters_number = refl;
  parameters_place = refl;
}

pub examples_hold : ExamplesHold
unfolding ExamplesHold
examples_hold = worked_examples
