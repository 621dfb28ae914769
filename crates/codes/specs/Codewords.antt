-- The check code over a field: its codewords, how far they are apart, and what filling checks and correcting answer.
use Rattle.std.specs.Prelude.{◌≡◌, ℕ, zero, suc, ◌-◌, ◌*◌, ◌<◌, ◌≤◌, Bool, true, cond, ◌&&◌, ◌↔◌, List, [], ◌∷◌, ◌++◌, map, length, take, drop, Ok, Err, MatchBool, Result, ◌==◌, ◌≢◌, nat_le, slice_index_or}
use Rattle.gf.specs.declared.refusal.Refusal.{Refusal}
use Rattle.gf.specs.declared.refusal.Refusal.TheVariants.{Shape, BeyondRepair}
use Rattle.gf.specs.Theory.{Operations, pow}
use Rattle.codes.specs.Polynomials.{zeros, negs, times, value, Same}
use Rattle.codes.specs.Division.{remainder_of}

-- x is none of these
abbrev pub Fresh : {A : Type 0} → A → List A → Type 0
Fresh x [] = Unit {0}
Fresh x (y ∷ ys) = (x ≢ y) × Fresh x ys

-- pairwise different
abbrev pub Apart : {A : Type 0} → List A → Type 0
Apart [] = Unit {0}
Apart (x ∷ xs) = Fresh x xs × Apart xs

module _ {E : Type 0} (f : Operations E) where
  -- (x - a^0) (x - a^1) … (x - a^(r - 1)), where a is the root
  abbrev pub generator : ℕ → List E
  generator zero = f.one ∷ []
  generator (suc r) = times f (generator r) (f.one ∷ f.neg (pow f f.root r) ∷ [])

  -- the word, read as a polynomial, is divisible by the generator
  abbrev pub Codeword : ℕ → List E → Type 0
  Codeword r w = (quotient : List E) × Same f w (times f quotient (generator r))

  -- the value of the word at the power i of the root
  abbrev pub syndrome : List E → ℕ → E
  syndrome w i = value f (pow f f.root i) w

  -- at how many places two words differ; a place that only one of them has counts
  abbrev pub distance : List E → List E → ℕ
  distance [] v = length v
  distance (a ∷ u) [] = suc (length u)
  distance (a ∷ u) (b ∷ v) = cond (f.equal a b) (distance u v) (suc (distance u v))

  -- the sum of all c · x^i, with c of the first list beside x of the second
  abbrev pub power_sum : List E → List E → ℕ → E
  power_sum [] xs i = f.zero
  power_sum (c ∷ cs) [] i = f.zero
  power_sum (c ∷ cs) (x ∷ xs) i = f.add (f.mul c (pow f x i)) (power_sum cs xs i)

  -- The checks of data symbols: the negatives of what the data with r zeros behind leave when divided by the generator.
  abbrev pub checks_of : ℕ → List E → List E
  checks_of r symbols = negs f (remainder_of f (symbols ++ zeros f r) (generator r))

  -- Vandermonde: at m different points, coefficients whose first m power sums are all zero are zero.
  abbrev pub Vandermonde : Type 0
  Vandermonde =
      (cs xs : List E) → length cs ≡ length xs → Apart xs
      → ((i : ℕ) → i < length xs → power_sum cs xs i ≡ f.zero) → cs ≡ zeros f (length cs)

  -- A word is a codeword exactly where its first r syndromes are all zero, for every r up to the reach.
  abbrev pub SyndromesDecide : Type 0
  SyndromesDecide =
      (r : ℕ) (w : List E) → r ≤ f.reach
      → Codeword r w ↔ ((i : ℕ) → i < r → syndrome w i ≡ f.zero)

  -- Two codewords of one length, at most the reach, that differ in at most r places are equal.
  abbrev pub MinimumDistance : Type 0
  MinimumDistance =
      (r : ℕ) (u v : List E) → length u ≡ length v → length u ≤ f.reach
      → Codeword r u → Codeword r v → distance u v ≤ r → u ≡ v

  -- all of them are zero
  abbrev pub all_zero : List E → Bool
  all_zero [] = true
  all_zero (c ∷ cs) = f.equal c f.zero && all_zero cs

  -- n symbols with r checks: 1 ≤ r ≤ 16, r < n, n at most the reach and at most 255
  abbrev pub code_shape : ℕ → ℕ → Bool
  code_shape n r = nat_le 1 r && (nat_le r 16 && (nat_le (suc r) n && (nat_le n f.reach && nat_le n 255)))

  -- a work buffer of 512 zeros
  abbrev pub work_shape : List E → Bool
  work_shape work = length work == 512 && all_zero work

  module _ {S : Type 0} (mean : S → E) where
    -- Only the last r symbols are written: they are the checks of the data symbols before them. So the word is a codeword, and no other
    -- codeword has these data symbols.
    pub record Filled (r : ℕ) (before after : List S) : Type 0 where
      pub long : length after ≡ length before
      pub data_kept : take (length before - r) after ≡ take (length before - r) before
      pub checks : drop (length before - r) (map mean after) ≡ checks_of r (take (length before - r) (map mean before))
      pub codeword : Codeword r (map mean after)
      pub only : (other : List E) → length other ≡ length before → Codeword r other
          → take (length before - r) other ≡ take (length before - r) (map mean before) → other ≡ map mean after

    -- The word is now a codeword. So many elements have changed, at most r / 2, and the stored symbols of all others are the very
    -- same. Every other codeword differs from the word as it was in more than r / 2 places.
    pub record Corrected (r : ℕ) (before after : List S) (count : ℕ) : Type 0 where
      pub long : length after ≡ length before
      pub codeword : Codeword r (map mean after)
      pub counted : count ≡ distance (map mean before) (map mean after)
      pub few : count * 2 ≤ r
      pub kept : (j : ℕ) (s : S) → mean (slice_index_or before j s) ≡ mean (slice_index_or after j s) → slice_index_or before j s ≡ slice_index_or after j s
      pub only : (other : List E) → length other ≡ length before → Codeword r other
          → (other ≢ map mean after) → r < distance (map mean before) other * 2

    -- No codeword of that length is within r / 2 places, and every symbol is as it was.
    pub record Beyond (r : ℕ) (before after : List S) : Type 0 where
      pub none : (other : List E) → length other ≡ length before → Codeword r other
          → r < distance (map mean before) other * 2
      pub same : after ≡ before

    -- A call that needs this shape refuses any other and changes nothing; else the work buffer is all zeros again, and the rest holds.
    abbrev pub Shaped : {A : Type 0} → ℕ → List S → List S → List S → List S → Result A Refusal → Type 0 → Type 0
    Shaped r before after work_before work_after answer rest =
        MatchBool (code_shape (length before) r && work_shape (map mean work_before))
        ((map mean work_after ≡ zeros f 512) × rest)
        ((answer ≡ Err Shape) × (after ≡ before) × (work_after ≡ work_before))

    -- What filling the checks answers.
    abbrev pub Encoded : ℕ → List S → List S → List S → List S → Result Unit Refusal → Type 0
    Encoded r before after work_before work_after answer =
        Shaped r before after work_before work_after answer ((answer ≡ Ok tt) × Filled r before after)

    -- the outcome of a correction
    abbrev pub Outcome : ℕ → List S → List S → Result ℕ Refusal → Type 0
    Outcome r before after (Ok count) = Corrected r before after count
    Outcome r before after (Err refusal) = (refusal ≡ BeyondRepair) × Beyond r before after

    -- What correcting answers.
    abbrev pub Correction : ℕ → List S → List S → List S → List S → Result ℕ Refusal → Type 0
    Correction r before after work_before work_after answer =
        Shaped r before after work_before work_after answer (Outcome r before after answer)
