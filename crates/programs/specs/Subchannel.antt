-- The subchannel index that a word names.
use Rattle.std.specs.Prelude.{ℕ, ◌≤◌, List, Result}
use Rattle.std.specs.Result.{OkIff}
use Rattle.std.specs.Str.Parse.{IsNumeral, digits_value, without_leading_plus}

-- the number that the digits of a word write, which may follow a plus
abbrev pub number_of : List ℕ → ℕ
number_of word = digits_value 10 (without_leading_plus word)

-- decimal digits that write 1 to 24
pub record IsIndex (word : List ℕ) : Type 0 where
  pub digits : IsNumeral 10 (without_leading_plus word)
  pub least : 1 ≤ number_of word
  pub most : number_of word ≤ 24

-- the index where the word names one, and else an error
abbrev pub ParsesIndex : {E : Type 0} → List ℕ → Result ℕ E → Type 0
ParsesIndex word result = OkIff result (IsIndex word) (number_of word)
