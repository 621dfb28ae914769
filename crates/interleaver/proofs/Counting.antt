-- In how many bytes two blocks differ, counted row by row.
use Rattle.std.proofs.Common.{◌≡◌, ℕ, zero, suc, ◌+◌, ◌*◌, ◌<◌, Bool, true, false, cond, List, [], ◌∷◌, map, length, get_or, sym, refl, ap, ◌∙◌, ap₂, arith}
use Rattle.gf.specs.Theory.{Operations}
use Rattle.codes.specs.Codewords.{distance}
use Rattle.interleaver.specs.Rows.{place_of, row_of}
use Rattle.interleaver.proofs.Places.{length-row_of, get_or-row_of}

-- the sum of the first values of a function
abbrev pub total : ℕ → (ℕ → ℕ) → ℕ
total zero g = 0
total (suc n) g = total n g + g n

pub same_total : (n : ℕ) (g h : ℕ → ℕ) → ((k : ℕ) → k < n → g k ≡ h k) → total n g ≡ total n h
same_total zero g h e = refl
same_total (suc n) g h e = ap₂ ◌+◌ (same_total n g h (λ k b. e k (omega arith))) (e n (omega arith))

pub total-more : (n : ℕ) (g : ℕ → ℕ) → total (n + 1) g ≡ total n g + g n
total-more n g =
    let e : n + 1 ≡ suc n = omega arith in
    ap (λ (k : ℕ). total k g) e

total-first : (n : ℕ) (g : ℕ → ℕ) → total (suc n) g ≡ g 0 + total n (λ k. g (suc k))
total-first zero g = omega arith
total-first (suc n) g = omega (arith, total-first n g)

total-zero : (n : ℕ) → total n (λ k. 0) ≡ 0
total-zero zero = refl
total-zero (suc n) = omega (arith, total-zero n)

total-plus : (n : ℕ) (g h : ℕ → ℕ) → total n (λ k. g k + h k) ≡ total n g + total n h
total-plus zero g h = refl
total-plus (suc n) g h = omega (arith, total-plus n g h)

total-add : (m n : ℕ) (g : ℕ → ℕ) → total (m + n) g ≡ total m g + total n (λ k. g (k + m))
total-add m zero g =
    let e : m + zero ≡ m = omega arith in
    ap (λ (k : ℕ). total k g) e ∙ omega arith
total-add m (suc n) g =
    let e : m + suc n ≡ suc (m + n) = omega arith in
    let at : m + n ≡ n + m = omega arith in
    ap (λ (k : ℕ). total k g) e ∙ omega (arith, total-add m n g, ap g at)

-- the sum over all places is the sum over the rows of the sums over their columns
total-rows : (rows n : ℕ) (g : ℕ → ℕ) → total (rows * n) g ≡ total rows (λ row. total n (λ column. g (place_of rows row column)))
total-rows rows zero g =
    let e : rows * zero ≡ zero = omega arith in
    ap (λ (k : ℕ). total k g) e ∙ sym (total-zero rows)
total-rows rows (suc n) g =
    let e : rows * suc n ≡ rows * n + rows = omega arith in
    ap (λ (k : ℕ). total k g) e ∙ total-add (rows * n) rows g
    ∙ ap (λ (t : ℕ). t + total rows (λ row. g (place_of rows row n))) (total-rows rows n g)
    ∙ sym (total-plus rows (λ row. total n (λ column. g (place_of rows row column))) (λ row. g (place_of rows row n)))

module _ {E : Type 0} (f : Operations E) (mean : ℕ → E) where
  -- 1 where two bytes mean different elements
  abbrev differ : ℕ → ℕ → ℕ
  differ a b = cond (f.equal (mean a) (mean b)) 0 1

  distance-total : (n : ℕ) (u v : List ℕ) → length u ≡ n → length v ≡ n
      → distance f (map mean u) (map mean v) ≡ total n (λ k. differ (get_or u k 0) (get_or v k 0))
  distance-total zero [] [] e h = refl
  distance-total zero [] (b ∷ v) e h = absurd (omega arith)
  distance-total zero (a ∷ u) v e h = absurd (omega arith)
  distance-total (suc n) [] v e h = absurd (omega arith)
  distance-total (suc n) (a ∷ u) [] e h = absurd (omega arith)
  distance-total (suc n) (a ∷ u) (b ∷ v) e h =
      by (f.equal (mean a) (mean b)) (distance-total n u v (omega arith) (omega arith))
      ∙ sym (total-first n (λ k. differ (get_or (a ∷ u) k 0) (get_or (b ∷ v) k 0)))
    where
      by : (t : Bool) → distance f (map mean u) (map mean v) ≡ total n (λ k. differ (get_or u k 0) (get_or v k 0))
          → cond t (distance f (map mean u) (map mean v)) (suc (distance f (map mean u) (map mean v)))
          ≡ cond t 0 1 + total n (λ k. differ (get_or u k 0) (get_or v k 0))
      by true e = omega (arith, e)
      by false e = omega (arith, e)

  -- blocks differ in as many bytes as their rows do
  pub distance-rows : (rows symbols : ℕ) (block other : List ℕ) → length block ≡ rows * symbols → length other ≡ rows * symbols
      → distance f (map mean block) (map mean other)
      ≡ total rows (λ i. distance f (map mean (row_of rows symbols block i)) (map mean (row_of rows symbols other i)))
  distance-rows rows symbols block other e h =
      distance-total (rows * symbols) block other e h
      ∙ total-rows rows symbols (λ k. differ (get_or block k 0) (get_or other k 0))
      ∙ same_total rows _ _ (λ i b. same_total symbols _ _ (λ column k. ap₂ differ
      (sym (get_or-row_of rows symbols block i column k)) (sym (get_or-row_of rows symbols other i column k)))
      ∙ sym (distance-total symbols (row_of rows symbols block i) (row_of rows symbols other i)
      (length-row_of rows symbols block i) (length-row_of rows symbols other i)))
