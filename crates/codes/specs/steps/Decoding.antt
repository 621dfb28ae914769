-- What the private steps of a correction promise: places and their points, suspects, and errors taken off.
use Rattle.std.specs.Prelude.{◌≡◌, ℕ, suc, ◌+◌, ◌-◌, ◌/◌, ◌<◌, ◌≤◌, cond, ◌⊎◌, List, [], ◌∷◌, map, length, ◌≢◌, slice_index_or, slice_set}
use Rattle.gf.specs.Theory.{Operations, pow}
use Rattle.codes.specs.Polynomials.{value, zeros}
use Rattle.codes.specs.Codewords.{Apart, power_sum}

-- x is one of these
abbrev pub Among : {A : Type 0} → A → List A → Type 0
Among x [] = ⊥
Among x (y ∷ ys) = (x ≡ y) ⊎ Among x ys

module _ {E : Type 0} (f : Operations E) where
  -- the symbol at a place
  abbrev pub symbol : List E → ℕ → E
  symbol w k = slice_index_or w k f.zero

  -- the power of the root that belongs to the place k of a word of n symbols
  abbrev pub point : ℕ → ℕ → E
  point n k = pow f f.root (n - 1 - k)

  -- the sum of all p_j · s (i + j), where p_j is the coefficient of the power j
  abbrev pub recurrence : List E → (ℕ → E) → ℕ → E
  recurrence [] s i = f.zero
  recurrence (c ∷ p) s i = f.add (f.mul c (s (i + length p))) (recurrence p s i)

  -- a locator polynomial of degree at most t: not all zero, and t values of s in a row recur by it
  pub record Locator (t : ℕ) (s : ℕ → E) (p : List E) : Type 0 where
    pub long : length p ≡ suc t
    pub some : p ≡ zeros f (suc t) → ⊥
    pub recurs : (i : ℕ) → i < t → recurrence p s i ≡ f.zero

  -- the places, among the last e of a word of n symbols, whose points are roots of p
  pub record Suspects (p : List E) (n e : ℕ) (places : List ℕ) : Type 0 where
    pub apart : Apart places
    pub below : (k : ℕ) → Among k places → k < n
    pub last : (k : ℕ) → Among k places → n ≤ k + e
    pub roots : (k : ℕ) → Among k places → value f (point n k) p ≡ f.zero
    pub all : (k : ℕ) → k < n → n ≤ k + e → value f (point n k) p ≡ f.zero → Among k places

  -- the places of a word of n symbols that some locator polynomial suspects
  pub record Located (t n : ℕ) (s : ℕ → E) (places : List ℕ) : Type 0 where
    pub polynomial : List E
    pub locator : Locator t s polynomial
    pub suspects : Suspects polynomial n n places

  -- the word with an error taken off at each place
  abbrev pub taken_off : List E → List ℕ → List E → List E
  taken_off w [] ys = w
  taken_off w (k ∷ ks) [] = w
  taken_off w (k ∷ ks) (y ∷ ys) = taken_off (slice_set w k (f.add (symbol w k) (f.neg y))) ks ys

  -- how many are not zero
  abbrev pub weight : List E → ℕ
  weight [] = 0
  weight (c ∷ cs) = cond (f.equal c f.zero) (weight cs) (suc (weight cs))

  -- each coefficient times its power of x: the sum of these is the value at x
  abbrev pub terms_of : E → List E → List E
  terms_of x [] = []
  terms_of x (c ∷ p) = f.mul c (pow f x (length p)) ∷ terms_of x p

  -- the sum of all of them
  abbrev pub total : List E → E
  total [] = f.zero
  total (c ∷ cs) = f.add c (total cs)

  -- row i holds s (i + t) … s i
  abbrev pub Recurring : ℕ → (ℕ → E) → ℕ → (ℕ → ℕ → E) → Type 0
  Recurring t s n a = (i j : ℕ) → i < n → j < t + 1 → a i j ≡ s (i + (t - j))

  -- column k holds the powers of the point x
  abbrev pub Powers : ℕ → E → ℕ → (ℕ → ℕ → E) → Type 0
  Powers n x k a = (i : ℕ) → i < n → a i k ≡ pow f x i

  -- the columns below k hold the powers of their points
  abbrev pub Columns : ℕ → (ℕ → E) → ℕ → (ℕ → ℕ → E) → Type 0
  Columns m xs k a = (j : ℕ) → j < k → Powers m (xs j) j a

  -- each of the first n of s, less the power sum of the errors
  abbrev pub Rest : ℕ → List E → List E → (ℕ → E) → (ℕ → E) → Type 0
  Rest n ys xs s u = (i : ℕ) → i < n → u i ≡ f.add (s i) (f.neg (power_sum f ys xs i))

  -- Errors of the values ys at these places of a word of n symbols with the r syndromes s: only at these places can there be errors,
  -- only these values have the first power sums right, and u is what they leave of the syndromes.
  pub record Found (r n : ℕ) (s u : ℕ → E) (places : List ℕ) (ys : List E) : Type 0 where
    pub located : Located (r / 2) n s places
    pub many : length ys ≡ length places
    pub solved : (i : ℕ) → i < length places → power_sum f ys (map (point n) places) i ≡ s i
    pub rest : Rest r ys (map (point n) places) s u

  -- the first n entries are multiplied by q
  abbrev pub Scaled : E → ℕ → (ℕ → E) → (ℕ → E) → Type 0
  Scaled q n v u = (k : ℕ) → k < n → u k ≡ f.mul (v k) q

  -- the entries before m are divided by the negative of the entry m
  abbrev pub Normalized : ℕ → (ℕ → E) → (ℕ → E) → Type 0
  Normalized m v u = Scaled (f.neg (f.inv (v m))) m v u

  -- the errors are taken off the word, and so many of them are not zero; a symbol of the same element as before is the very same
  pub record CorrectedPlaces {S : Type 0} (mean : S → E) (places : List ℕ) (ys : List E) (before after : List S) (changed : ℕ) : Type 0 where
    pub long : length after ≡ length before
    pub elements : map mean after ≡ taken_off (map mean before) places ys
    pub counted : changed ≡ weight ys
    pub kept : (j : ℕ) (s : S) → mean (slice_index_or before j s) ≡ mean (slice_index_or after j s) → slice_index_or before j s ≡ slice_index_or after j s

-- the other columns are as they were
abbrev pub Beside : {E : Type 0} → ℕ → (ℕ → ℕ → E) → ℕ → (ℕ → ℕ → E) → Type 0
Beside w a j b = (r c : ℕ) → c < w → (c ≢ j) → b r c ≡ a r c
