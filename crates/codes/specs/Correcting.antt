-- What correcting a word comes to, over every field, in the words of near codewords.
use Rattle.std.specs.Prelude.{◌≡◌, ℕ, ◌*◌, ◌≤◌, Bool, true, false, ◌&&◌, ◌⊎◌, List, map, length, Ok, Err, Result, slice_index_or}
use Rattle.gf.specs.declared.refusal.Refusal.{Refusal}
use Rattle.gf.specs.declared.refusal.Refusal.TheVariants.{Shape, BeyondRepair}
use Rattle.gf.specs.Theory.{Operations}
use Rattle.codes.specs.Polynomials.{zeros}
use Rattle.codes.specs.Codewords.{Codeword, distance, code_shape, work_shape}

module _ {E S : Type 0} (f : Operations E) (mean : S → E) where
  -- The codeword differs from the word in at most half as many places as there are checks.
  pub record Near (checks : ℕ) (word : List S) (codeword : List E) : Type 0 where
    pub long : length codeword ≡ length word
    pub is_codeword : Codeword f checks codeword
    pub within : distance f (map mean word) codeword * 2 ≤ checks

  -- The shape is one that the code has, and the work buffer is 512 zeros.
  abbrev pub admitted : ℕ → List S → List S → Bool
  admitted checks word work = code_shape f (length word) checks && work_shape f (map mean work)

  -- What is true of a word, of the work buffer and of the answer of correcting it.
  pub record Corrects (checks : ℕ) (before after work_before work_after : List S) (answer : Result ℕ Refusal) : Type 0 where
    -- a word, a number of checks or a work buffer that is not as admitted is refused, and nothing is changed
    pub shape : admitted checks before work_before ≡ false → (answer ≡ Err Shape) × (after ≡ before) × (work_after ≡ work_before)
    -- else the work buffer is all zeros again
    pub cleared : admitted checks before work_before ≡ true → map mean work_after ≡ zeros f 512
    -- at most one codeword is near
    pub one : (c c′ : List E) → code_shape f (length before) checks ≡ true → Near checks before c → Near checks before c′ → c ≡ c′
    -- and one is, or none is
    pub decided : admitted checks before work_before ≡ true → ((c : List E) × Near checks before c) ⊎ ((c : List E) → Near checks before c → ⊥)
    -- where one is near, the word becomes that codeword, and the answer is in how many places it differed
    pub near : (c : List E) → admitted checks before work_before ≡ true → Near checks before c
        → (answer ≡ Ok (distance f (map mean before) c)) × (map mean after ≡ c)
    -- a symbol of the same element as before is the very same
    pub kept : (j : ℕ) (s : S) → mean (slice_index_or before j s) ≡ mean (slice_index_or after j s) → slice_index_or before j s ≡ slice_index_or after j s
    -- where none is near, it is refused, and the word is as it was
    pub far : admitted checks before work_before ≡ true → ((c : List E) → Near checks before c → ⊥) → (answer ≡ Err BeyondRepair) × (after ≡ before)
