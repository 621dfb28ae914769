-- What a row's correction answers to C.
use Rattle.std.specs.Prelude.{◌≡◌, ℕ, List, length, Ok, Err, MatchBool, Result, ◌==◌}
use Rattle.gf.specs.declared.gf256.Gf256.{Gf256}
use Rattle.gf.specs.declared.refusal.Refusal.{Refusal}
use Rattle.gf.specs.declared.refusal.Refusal.TheVariants.{Shape}
use Rattle.gf.specs.Bits.{bits}
use Rattle.gf.specs.Fields.{gf256}
use Rattle.gf.specs.Refusals.{entry}
use Rattle.codes.specs.Codewords.{Correction}

-- A row of 120 bytes is corrected as a word with ten checks; any other is refused and nothing is changed.
abbrev pub RowCorrection : List Gf256 → List Gf256 → List Gf256 → List Gf256 → Result ℕ Refusal → Type 0
RowCorrection before after work_before work_after answer =
    MatchBool (length before == 120) (Correction gf256 (λ s. bits 8 s.0) 10 before after work_before work_after answer)
    ((answer ≡ Err Shape) × (after ≡ before) × (work_after ≡ work_before))

-- 0 and the count, or the refusal's number with the count as it was
abbrev pub Reported : Result ℕ Refusal → ℕ → ℕ → ℕ → Type 0
Reported (Ok changed) count_before count_after status = (status ≡ 0) × (count_after ≡ changed)
Reported (Err refusal) count_before count_after status = (status ≡ (entry refusal).number) × (count_after ≡ count_before)

-- C is told the answer of a row's correction.
pub record Answered (before after work_before work_after : List Gf256) (count_before count_after status : ℕ) : Type 0 where
  pub answer : Result ℕ Refusal
  pub row : RowCorrection before after work_before work_after answer
  pub reported : Reported answer count_before count_after status
