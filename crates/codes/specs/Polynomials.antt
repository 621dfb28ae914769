-- Polynomials over a field as lists of coefficients, the highest power first.
use Rattle.std.specs.Prelude.{◌≡◌, ℕ, ◌-◌, List, [], ◌∷◌, ◌++◌, map, reverse, length, replicate, slice_index_or}
use mathlib.Core.List.{tail}
use Rattle.gf.specs.Theory.{Operations, pow}

module _ {E : Type 0} (f : Operations E) where
  abbrev pub zeros : ℕ → List E
  zeros n = replicate n f.zero

  abbrev pub scale : E → List E → List E
  scale c p = map (f.mul c) p

  abbrev pub negs : List E → List E
  negs p = map f.neg p

  -- the sums place by place from the front, and behind them what the longer list has more
  abbrev pub over : List E → List E → List E
  over [] q = q
  over (a ∷ p) [] = a ∷ p
  over (a ∷ p) (b ∷ q) = f.add a b ∷ over p q

  -- the sum of two polynomials: zeros in front bring them to one length
  abbrev pub plus : List E → List E → List E
  plus p q = over (zeros (length q - length p) ++ p) (zeros (length p - length q) ++ q)

  -- the product: the highest coefficient of p times q, over the product of the others
  abbrev pub times : List E → List E → List E
  times [] q = zeros (length (tail q))
  times (a ∷ p) q = over (scale a q) (f.zero ∷ times p q)

  -- the coefficient of the power k
  abbrev pub coefficient : List E → ℕ → E
  coefficient p k = slice_index_or (reverse p) k f.zero

  -- the same polynomial: all coefficients agree, so that zeros in front do not count
  abbrev pub Same : List E → List E → Type 0
  Same p q = (k : ℕ) → coefficient p k ≡ coefficient q k

  -- the value of the polynomial at x: the sum of all c · x^k, with c the coefficient of the power k
  abbrev pub value : E → List E → E
  value x [] = f.zero
  value x (c ∷ p) = f.add (f.mul c (pow f x (length p))) (value x p)
