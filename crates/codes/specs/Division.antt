-- The remainder of a division by a polynomial that begins with one.
use Rattle.std.specs.Prelude.{◌≡◌, ℕ, zero, suc, ◌+◌, Bool, ◌&&◌, List, [], ◌∷◌, ◌++◌, map, length, Ok, Err, MatchBool, Result, ◌==◌, nat_le, slice_index_or}
use mathlib.Core.List.{tail}
use Rattle.gf.specs.declared.refusal.Refusal.{Refusal}
use Rattle.gf.specs.declared.refusal.Refusal.TheVariants.{Shape}
use Rattle.gf.specs.Theory.{Operations}
use Rattle.codes.specs.Polynomials.{zeros, scale, negs, over, plus, times, Same}

module _ {E : Type 0} (f : Operations E) where
  -- n steps of the long division by the polynomial with one in front of d: each takes the highest coefficient off, and that multiple of
  -- the divisor with it
  abbrev pub divided : List E → ℕ → List E → List E
  divided d zero w = w
  divided d (suc n) [] = []
  divided d (suc n) (c ∷ w) = divided d n (over f w (negs f (scale f c d)))

  -- the remainder of a message: with as many zeros in front as the divisor's degree there is one step for each of its symbols
  abbrev pub remainder_of : List E → List E → List E
  remainder_of message divisor =
      divided (tail divisor) (length message) (zeros f (length (tail divisor)) ++ message)

  -- one place less than the divisor has, and some quotient makes the message of it
  abbrev pub Leaves : List E → List E → List E → Type 0
  Leaves message divisor rest =
      (length rest + 1 ≡ length divisor) × ((quotient : List E) × Same f message (plus f (times f quotient divisor) rest))

  -- message = quotient · divisor + rest for some quotient, and no other rest of that length does so
  pub record Remainder (message divisor rest : List E) : Type 0 where
    pub value : rest ≡ remainder_of message divisor
    pub left : Leaves message divisor rest
    pub only : (other : List E) → Leaves message divisor other → other ≡ rest

  -- a divisor of degree 1 to 16 that begins with one, and as many places for the rest as its degree
  abbrev pub admitted : List E → ℕ → Bool
  admitted divisor places =
      nat_le 1 places && (nat_le places 16 && (length divisor == places + 1 && f.equal (slice_index_or divisor 0 f.zero) f.one))

  -- What a division of the message answers: the remainder, or a refusal that leaves the places as they were.
  abbrev pub Answered : {S : Type 0} → (S → E) → List E → List S → Result Unit Refusal → List S → List S → Type 0
  Answered mean message divisor answer before after =
      MatchBool (admitted (map mean divisor) (length before)) ((answer ≡ Ok tt) × Remainder message (map mean divisor) (map mean after))
      ((answer ≡ Err Shape) × (after ≡ before))
