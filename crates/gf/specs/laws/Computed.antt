-- The tables of a field: the powers of x, their exponents and the inverses, and the tests that they pass.
use Rattle.std.specs.Prelude.{◌≡◌, ℕ, zero, suc, ◌+◌, ◌-◌, ◌^◌, ◌<◌, Bool, true, false, not, ◌&&◌, T, List, [], ◌∷◌, ◌==◌, nat_eq, nat_lt, slice_index, slice_index_or}
use Rattle.std.proofs.Common.{sym, ap, ap₂, ◌∙◌, add-zero, zero-add, add-suc, suc-add, le_of_suc-le-suc, not-suc-le-zero}
use Rattle.gf.specs.Bits.{Bits, bits, number, zeros, equal, times_x, times}
use Rattle.gf.specs.laws.Tests.{below}

-- the first n entries are the powers of x from u on
unfoldable pub walk : (k : ℕ) → Bits k → ℕ → List ℕ → Bits k → Bool
walk k low zero xs u = true
walk k low (suc n) [] u = false
walk k low (suc n) (x ∷ xs) u = equal k (bits k x) u && walk k low n xs (times_x k low u)

-- the exponent of m is right
unfoldable pub entry : ℕ → List ℕ → List ℕ → ℕ → Bool
entry last exps logs zero = slice_index logs 0 == suc last + suc last
entry last exps logs (suc m) = nat_lt (slice_index logs (suc m)) (suc last) && slice_index exps (slice_index logs (suc m)) == suc m

-- the table of inverses is right at m
unfoldable pub turned : ℕ → List ℕ → List ℕ → List ℕ → ℕ → Bool
turned k exps logs invs zero = slice_index invs 0 == 0
turned k exps logs invs (suc m) =
    nat_lt (slice_index invs (suc m)) (2 ^ k) && slice_index exps (slice_index logs (suc m) + slice_index logs (slice_index invs (suc m))) == 1

-- the tables: the powers of x twice around and then padding, the exponent of each number below 2 ^ k, and the inverses

unfoldable pub row : (k : ℕ) → Bits k → ℕ → Bits k → List ℕ → List ℕ
row k low zero u end = end
row k low (suc n) u end = number k u ∷ row k low n (times_x k low u) end

unfoldable pub padding : ℕ → List ℕ
padding zero = []
padding (suc n) = 0 ∷ padding n

unfoldable pub exps : (k : ℕ) → Bits k → ℕ → List ℕ
exps k low last = row k low (suc last + suc last) (bits k 1) (padding (suc (suc last + suc last)))

-- the first place of x
unfoldable pub place : ℕ → List ℕ → ℕ
place x [] = 0
place x (y ∷ ys) = elim (x == y) [ true ↦ 0 | false ↦ suc (place x ys) ]

-- the places of n numbers from m on
unfoldable pub places : List ℕ → ℕ → ℕ → List ℕ
places xs zero m = []
places xs (suc n) m = place m xs ∷ places xs n (suc m)

unfoldable pub logs : ℕ → List ℕ → List ℕ
logs k xs = places xs (2 ^ k) 0

-- the powers at the exponents that are left of n
unfoldable pub turns : ℕ → List ℕ → List ℕ → List ℕ
turns n xs [] = []
turns n xs (l ∷ ls) = slice_index xs (n - l) ∷ turns n xs ls

unfoldable pub invs : ℕ → List ℕ → List ℕ → List ℕ
invs last xs [] = []
invs last xs (l ∷ ls) = 0 ∷ turns (suc last) xs ls

-- n entries of a table from m on
unfoldable pub listed : {A : Type 0} → (ℕ → A) → ℕ → ℕ → List A
listed f zero m = []
listed f (suc n) m = f m ∷ listed f n (suc m)

pub listed_at : {A : Type 0} (f : ℕ → A) (d : A) (n m i : ℕ) → i < n → slice_index_or (listed f n m) i d ≡ f (m + i)
unfolding listed
listed_at f d zero m i h = absurd (not-suc-le-zero h)
listed_at f d (suc n) m zero h = ap f (sym (add-zero m))
listed_at f d (suc n) m (suc i) h = listed_at f d n (suc m) i (le_of_suc-le-suc h) ∙ ap f (suc-add m i ∙ sym (add-suc m i))

-- the products with the first powers of the root, by the exponent and the number
unfoldable pub root_products : ℕ → List ℕ → List ℕ → List (List ℕ)
root_products k exps logs = listed (λ i. listed (λ a. slice_index exps (slice_index logs a + i)) (2 ^ k) 0) 16 0

pub root_products_at : (k : ℕ) (exps logs : List ℕ) (i a : ℕ) → i < 16 → a < 2 ^ k
    → slice_index (slice_index_or (root_products k exps logs) i []) a ≡ slice_index exps (slice_index logs a + i)
unfolding root_products
root_products_at k exps logs i a hi ha =
    ap (λ row. slice_index row a) (listed_at (λ j. listed (λ b. slice_index exps (slice_index logs b + j)) (2 ^ k) 0) [] 16 0 i hi)
    ∙ listed_at (λ b. slice_index exps (slice_index logs b + (0 + i))) 0 (2 ^ k) 0 a ha
    ∙ ap₂ (λ (b j : ℕ). slice_index exps (slice_index logs b + j)) (zero-add a) (zero-add i)

-- the tables of a field
pub record Tables : Type 0 where
  pub exps : List ℕ
  pub logs : List ℕ
  pub invs : List ℕ

unfoldable pub tables : (k : ℕ) → Bits k → ℕ → Tables
unfolding exps row padding logs place places invs turns number
tables k low last =
    let powers = exps k low last in
    let exponents = logs k powers in
    record { exps = powers; logs = exponents; invs = invs last powers exponents }

-- The tests of the two tables: `exps` has the powers of x, twice around, and then padding; `logs` has the exponent of each number, and
-- at 0 the place of the first zero.
pub record Sound (k : ℕ) (low : Bits k) (last : ℕ) (t : Tables) : Type 0 where
  pub spans : T (below (λ m. equal k (times k low (bits k m) (bits k 1)) (bits k m)) (2 ^ k))
  pub powers : T (walk k low (suc last + suc last) t.exps (bits k 1))
  pub padding : T (below (λ j. nat_eq (slice_index t.exps ((suc last + suc last) + j)) 0) (suc (suc last + suc last)))
  pub entries : T (below (entry last t.exps t.logs) (2 ^ k))
  pub back : T (below (λ i. nat_eq (slice_index t.logs (number k (bits k (slice_index t.exps i)))) i) (suc last))
  pub round : T (slice_index t.exps (suc last) == 1)
  pub unequal : T (not (equal k (bits k 1) (zeros k)))
  pub zero_bits : T (equal k (bits k 0) (zeros k))
  pub inverses : T (below (turned k t.exps t.logs t.invs) (2 ^ k))
