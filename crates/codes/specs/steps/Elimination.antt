-- What the steps of an elimination promise each other: a matrix, and what each step changes. No public contract speaks of these.
use Rattle.std.specs.Prelude.{◌≡◌, ℕ, zero, suc, ◌+◌, ◌*◌, ◌<◌, ◌≤◌, List, map, ◌≢◌, slice_index_or}
use Rattle.gf.specs.Theory.{Operations}

-- x stands at row i and column j, and every other entry is as it was
pub record Put {E : Type 0} (w : ℕ) (a : ℕ → ℕ → E) (i j : ℕ) (x : E) (b : ℕ → ℕ → E) : Type 0 where
  pub here : b i j ≡ x
  pub rows : (r c : ℕ) → c < w → (r ≢ i) → b r c ≡ a r c
  pub columns : (r c : ℕ) → c < w → (c ≢ j) → b r c ≡ a r c

-- rows p and q have changed places in the columns below n
pub record Swapped {E : Type 0} (w n : ℕ) (a : ℕ → ℕ → E) (p q : ℕ) (b : ℕ → ℕ → E) : Type 0 where
  pub first : (c : ℕ) → c < n → b p c ≡ a q c
  pub second : (c : ℕ) → c < n → b q c ≡ a p c
  pub rows : (r c : ℕ) → c < w → (r ≢ p) → (r ≢ q) → b r c ≡ a r c
  pub after : (r c : ℕ) → c < w → n ≤ c → b r c ≡ a r c

-- the rows but i are as they were
abbrev pub Others : {E : Type 0} → ℕ → (ℕ → ℕ → E) → ℕ → (ℕ → ℕ → E) → Type 0
Others w a i b = (r c : ℕ) → c < w → (r ≢ i) → b r c ≡ a r c

module _ {E : Type 0} (f : Operations E) where
  -- the entry at row i and column j of rows of w symbols, one after another
  unfoldable pub cells : {S : Type 0} → (S → E) → ℕ → List S → ℕ → ℕ → E
  cells mean w xs i j = slice_index_or (map mean xs) (i * w + j) f.zero

  -- the entry at j of a vector
  unfoldable pub entries : {S : Type 0} → (S → E) → List S → ℕ → E
  entries mean xs j = slice_index_or (map mean xs) j f.zero

  -- u 0 + .. + u (n - 1)
  unfoldable pub sum : ℕ → (ℕ → E) → E
  sum zero u = f.zero
  sum (suc n) u = f.add (sum n u) (u n)

  -- what row i, of w columns, sends v to
  unfoldable pub sent : ℕ → (ℕ → ℕ → E) → ℕ → (ℕ → E) → E
  sent w a i v = sum w (λ j. f.mul (a i j) (v j))

  -- each of the first m rows sends v to zero
  abbrev pub Kills : ℕ → ℕ → (ℕ → ℕ → E) → (ℕ → E) → Type 0
  Kills m w a v = (i : ℕ) → i < m → sent w a i v ≡ f.zero

  -- row p is the first from k on, below m, that is not zero in column k
  pub record Pivot (m k : ℕ) (a : ℕ → ℕ → E) (p : ℕ) : Type 0 where
    pub from : k ≤ p
    pub below : p < m
    pub some : a p k ≡ f.zero → ⊥
    pub first : (r : ℕ) → k ≤ r → r < p → a r k ≡ f.zero

  -- column k is zero from row k on
  abbrev pub Free : ℕ → ℕ → (ℕ → ℕ → E) → Type 0
  Free m k a = (r : ℕ) → k ≤ r → r < m → a r k ≡ f.zero

  -- a multiple of row k was added to row r, in the columns from k on and below n
  pub record Added (w n k : ℕ) (a : ℕ → ℕ → E) (r : ℕ) (q : E) (b : ℕ → ℕ → E) : Type 0 where
    pub before : (c : ℕ) → c < w → c < k → b r c ≡ a r c
    pub within : (c : ℕ) → k ≤ c → c < n → b r c ≡ f.add (a r c) (f.mul q (a k c))
    pub after : (c : ℕ) → c < w → n ≤ c → b r c ≡ a r c

  -- row r is zero in column k, by a multiple of row k that was added
  pub record Cleared (w k : ℕ) (a : ℕ → ℕ → E) (r : ℕ) (b : ℕ → ℕ → E) : Type 0 where
    pub factor : E
    pub added : Added w w k a r factor b
    pub zero : b r k ≡ f.zero

  -- the rows past k and below n are cleared in column k, and the others as they were
  pub record Below (w n k : ℕ) (a b : ℕ → ℕ → E) : Type 0 where
    pub cleared : (r : ℕ) → k < r → r < n → Cleared w k a r b
    pub upper : (r c : ℕ) → c < w → r ≤ k → b r c ≡ a r c
    pub lower : (r c : ℕ) → c < w → n ≤ r → b r c ≡ a r c

  -- the first k columns are done: their pivots are not zero, and below each there are zeros
  pub record Steps (m k : ℕ) (a : ℕ → ℕ → E) : Type 0 where
    pub pivots : (i : ℕ) → i < k → a i i ≢ f.zero
    pub zeros : (i c : ℕ) → c < k → c < i → i < m → a i c ≡ f.zero

  -- what all rows of a send to zero, all rows of o do
  abbrev pub Keeps : ℕ → ℕ → (ℕ → ℕ → E) → (ℕ → ℕ → E) → Type 0
  Keeps m w o a = (v : ℕ → E) → Kills m w a v → Kills m w o v

  -- column `free` is the first with no pivot
  pub record Reduced (m w : ℕ) (o a : ℕ → ℕ → E) (free : ℕ) : Type 0 where
    pub within : free ≤ m
    pub keeps : Keeps m w o a
    pub steps : Steps m free a
    pub none : Free m free a

  -- v is one at `free`, and zero elsewhere
  pub record Single (free : ℕ) (v : ℕ → E) : Type 0 where
    pub here : v free ≡ f.one
    pub elsewhere : (j : ℕ) → (j ≢ free) → v j ≡ f.zero

  -- the rows from i on send v to zero, which is zero before i and past `free`, and one at `free`
  pub record Solved (m w free i : ℕ) (a : ℕ → ℕ → E) (v : ℕ → E) : Type 0 where
    pub here : v free ≡ f.one
    pub before : (j : ℕ) → j < i → v j ≡ f.zero
    pub after : (j : ℕ) → free < j → v j ≡ f.zero
    pub kills : (r : ℕ) → i ≤ r → r < m → sent w a r v ≡ f.zero

  -- v is not zero, and each of the m rows of w columns sends it to zero
  pub record Kernel (m w : ℕ) (a : ℕ → ℕ → E) (v : ℕ → E) : Type 0 where
    pub some : ((j : ℕ) → j < w → v j ≡ f.zero) → ⊥
    pub kills : Kills m w a v
