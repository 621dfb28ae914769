-- A read and a write of a vector by place, and of a row-by-row list by row and column.
use borrow.Author.Count.{below_more}
use Rattle.std.proofs.Common.{◌≡◌, ℕ, suc, ◌+◌, ◌-◌, ◌*◌, ◌<◌, ◌≤◌, List, [], ◌∷◌, ◌++◌, map, length, get_or, take, drop, set, sym, ap, ◌∙◌, ⊎_elim, mul-le-mul_right, suc-mul, arith}
use lib.ListN.{length-map, length-replicate, get_or-replicate}
use mathlib.Core.List.{map-append}
use Rattle.std.proofs.lemmas.List.{get_or_past, map-set, get_or-map, get_or-take, get_or-drop, get_or_append_left, get_or-append_right, get_or-set_same, get_or-set_other, drop-map}
use Rattle.std.proofs.lemmas.Bool.{cases_lt}
use Rattle.gf.specs.Theory.{Operations}
use Rattle.codes.specs.Polynomials.{zeros}
use Rattle.std.specs.List.{SwappedAt}
use Rattle.codes.specs.steps.Elimination.{cells, entries, Put, Swapped}
use Rattle.codes.proofs.Registers.{read}

-- a row lies within
pub row_in : (m w i n : ℕ) → m * w ≤ n → i < m → i * w + w ≤ n
row_in m w i n h hi = omega (arith, suc-mul i w, mul-le-mul_right {m = suc i} {n = m} w hi)

-- a later row lies past
past : (r i w c j : ℕ) → r < i → c < w → r * w + c < i * w + j
past r i w c j hr hc = omega (arith, suc-mul r w, mul-le-mul_right {m = suc r} {n = i} w hr)

rows_differ : (r i w c j : ℕ) → c < w → j < w → (r ≡ i → ⊥) → r * w + c ≡ i * w + j → ⊥
rows_differ r i w c j hc hj ne e =
    ⊎_elim (λ (h : r < i). omega (arith, past r i w c j h hc)) (λ (h : i ≤ r). let s : i < r = omega arith in omega (arith, past i r w j c s hj)) (cases_lt r i)

columns_differ : (r i w c j : ℕ) → c < w → j < w → (c ≡ j → ⊥) → r * w + c ≡ i * w + j → ⊥
columns_differ r i w c j hc hj ne e =
    ⊎_elim (λ (h : r < i). omega (arith, past r i w c j h hc))
    (λ (h : i ≤ r). ⊎_elim (λ (s : i < r). omega (arith, past i r w j c s hj))
    (λ (s : r ≤ i). let q : r ≡ i = omega arith in ne (omega (arith, ap (λ (x : ℕ). x * w) q))) (cases_lt i r)) (cases_lt r i)

module _ {E S : Type 0} (f : Operations E) (mean : S → E) where
  pub place_read : (xs : List S) (j : ℕ) (x : S) → j < length xs → x ≡ get_or xs j x → mean x ≡ entries f mean xs j
  unfolding entries
  place_read xs j x h e = read f mean xs j x h e

  -- the same, of a symbol that is named by its place
  pub place_at : (xs : List S) (j : ℕ) (d : S) → j < length xs → mean (get_or xs j d) ≡ entries f mean xs j
  unfolding entries
  place_at xs j d h = sym (get_or-map mean xs j d f.zero h)

  -- a symbol of the part that begins at a place
  pub part : (xs : List S) (start n j : ℕ) (x : S) → j < n → start + j < length xs → x ≡ get_or (take n (drop start xs)) j x
      → mean x ≡ entries f mean xs (start + j)
  part xs start n j x h b e =
      ap mean (e ∙ get_or-take n (drop start xs) j x h ∙ get_or-drop start xs j x) ∙ place_at xs (start + j) x b

  pub place_set : (xs : List S) (j : ℕ) (x : S) → j < length xs → entries f mean (set xs j x) j ≡ mean x
  unfolding entries
  place_set xs j x h =
      ap (λ ys. get_or ys j f.zero) (map-set mean xs j x)
      ∙ get_or-set_same (map mean xs) j (mean x) f.zero (rw (length-map xs mean) h)

  pub place_other : (xs : List S) (j k : ℕ) (x : S) → (k ≡ j → ⊥) → entries f mean (set xs j x) k ≡ entries f mean xs k
  unfolding entries
  place_other xs j k x ne =
      ap (λ ys. get_or ys k f.zero) (map-set mean xs j x) ∙ get_or-set_other (map mean xs) j k (mean x) f.zero ne

  -- an entry of the front part
  pub front : (xs ys : List S) (j : ℕ) → j < length xs → entries f mean (xs ++ ys) j ≡ entries f mean xs j
  unfolding entries
  front xs ys j h =
      ap (λ zs. get_or zs j f.zero) (map-append mean xs ys) ∙ get_or_append_left (map mean xs) (map mean ys) f.zero j (rw (length-map xs mean) h)

  -- there is nothing past the end
  pub place_past : (xs : List S) (j : ℕ) → length xs ≤ j → entries f mean xs j ≡ f.zero
  unfolding entries
  place_past xs j h = get_or_past (map mean xs) j f.zero (rw (length-map xs mean) h)

  -- an entry of what lies past the front part
  pub behind : (ys xs : List S) (n j : ℕ) → length ys ≡ n → n ≤ j → entries f mean (ys ++ drop n xs) j ≡ entries f mean xs j
  unfolding entries
  behind ys xs n j long h =
      ap (λ zs. get_or zs j f.zero) (map-append mean ys (drop n xs))
      ∙ get_or-append_right (map mean ys) (map mean (drop n xs)) n j f.zero (length-map ys mean ∙ long) h
      ∙ ap (λ zs. get_or zs (j - n) f.zero) (sym (drop-map mean n xs)) ∙ get_or-drop n (map mean xs) (j - n) f.zero
      ∙ ap (λ (i : ℕ). get_or (map mean xs) i f.zero) (omega (arith, h))

  -- zeros are zero at each place, and so is what lies past them
  pub place-zeros : (xs : List S) (n : ℕ) → map mean xs ≡ zeros f n → (j : ℕ) → entries f mean xs j ≡ f.zero
  unfolding entries
  place-zeros xs n e j =
      ap (λ ys. get_or ys j f.zero) e
      ∙ ⊎_elim (λ (h : j < n). get_or-replicate n j f.zero f.zero h)
      (λ (h : n ≤ j). get_or_past (zeros f n) j f.zero (rw (length-replicate n f.zero) h)) (cases_lt j n)

  -- the entries before n are new, those from n on old, and the entry n is written
  pub place-next : (xs : List S) (n : ℕ) (x : S) (new old : ℕ → E) → n < length xs
      → ((j : ℕ) → j < n → entries f mean xs j ≡ new j) × ((j : ℕ) → n ≤ j → entries f mean xs j ≡ old j) → mean x ≡ new n
      → ((j : ℕ) → j < n + 1 → entries f mean (set xs n x) j ≡ new j) × ((j : ℕ) → n + 1 ≤ j → entries f mean (set xs n x) j ≡ old j)
  place-next xs n x new old h so e = (
    below_more (λ j. entries f mean (set xs n x) j ≡ new j) n (λ j b. place_other xs n j x (λ q. omega arith) ∙ so.0 j b) (place_set xs n x h ∙ e),
    λ j b. place_other xs n j x (λ q. omega arith) ∙ so.1 j (omega arith),
  )

  -- the entry that stands at a place
  pub cell_read : (w : ℕ) (xs : List S) (i j p : ℕ) (x : S) → p ≡ i * w + j → p < length xs → x ≡ get_or xs p x → mean x ≡ cells f mean w xs i j
  unfolding cells entries
  cell_read w xs i j p x e h read = place_read xs p x h read ∙ ap (entries f mean xs) e

  -- an entry of the part of a row that begins at a column
  pub cell_part : (w : ℕ) (xs : List S) (i column n j : ℕ) (x : S) → j < n → i * w + column + j < length xs
      → x ≡ get_or (take n (drop (i * w + column) xs)) j x → mean x ≡ cells f mean w xs i (column + j)
  unfolding cells entries
  cell_part w xs i column n j x h b e =
      let same : i * w + column + j ≡ i * w + (column + j) = omega arith in
      part xs (i * w + column) n j x h b e ∙ ap (entries f mean xs) same

  pub cell_put : (w : ℕ) (xs : List S) (i j p : ℕ) (x : S) → p ≡ i * w + j → j < w → p < length xs
      → Put w (cells f mean w xs) i j (mean x) (cells f mean w (set xs p x))
  unfolding cells entries
  cell_put w xs i j p x e hj h = record {
    here = ap (entries f mean (set xs p x)) (sym e) ∙ place_set xs p x h;
    rows = λ r c hc ne. place_other xs p (r * w + c) x (λ q. rows_differ r i w c j hc hj ne (q ∙ e));
    columns = λ r c hc ne. place_other xs p (r * w + c) x (λ q. columns_differ r i w c j hc hj ne (q ∙ e));
  }

  -- the symbols at two places have changed places
  entries_swapped : (xs ys : List S) (i j : ℕ) → i < length xs → j < length xs → length ys ≡ length xs → SwappedAt xs ys i j
      → (entries f mean ys i ≡ entries f mean xs j) × (entries f mean ys j ≡ entries f mean xs i)
      × ((k : ℕ) → (k ≡ i → ⊥) → (k ≡ j → ⊥) → entries f mean ys k ≡ entries f mean xs k)
  entries_swapped [] ys i j hi hj long s = absurd (omega arith)
  entries_swapped (x ∷ xs) ys i j hi hj long s = (
    sym (place_at ys i x (omega arith)) ∙ ap mean (s.0 x) ∙ place_at (x ∷ xs) j x hj,
    sym (place_at ys j x (omega arith)) ∙ ap mean (s.1 x) ∙ place_at (x ∷ xs) i x hi,
    λ k ni nj. ⊎_elim
        (λ (h : k < length (x ∷ xs)). sym (place_at ys k x (omega arith)) ∙ ap mean (s.2 k x ni nj) ∙ place_at (x ∷ xs) k x h)
        (λ (h : length (x ∷ xs) ≤ k). place_past ys k (omega arith) ∙ sym (place_past (x ∷ xs) k h)) (cases_lt k (length (x ∷ xs))),
  )

  -- rows p and q have changed places in one column more
  pub swapped_more : (w n p q u v : ℕ) (a : ℕ → ℕ → E) (xs ys : List S) → u ≡ p * w + n → v ≡ q * w + n → n < w → u < length xs → v < length xs → length ys ≡ length xs
      → SwappedAt xs ys u v → Swapped w n a p q (cells f mean w xs) → Swapped w (n + 1) a p q (cells f mean w ys)
  unfolding cells entries
  swapped_more w n p q u v a xs ys eu ev hn hu hv long s so =
      let t = entries_swapped xs ys u v hu hv long s in
      let elsewhere : (r c : ℕ) → c < w → (c ≡ n → ⊥) → cells f mean w ys r c ≡ cells f mean w xs r c =
      λ r c h d. t.2 (r * w + c) (λ e. columns_differ r p w c n h hn d (e ∙ eu)) (λ e. columns_differ r q w c n h hn d (e ∙ ev)) in
      record {
        first = below_more (λ c. cells f mean w ys p c ≡ a q c) n (λ c h. elsewhere p c (omega arith) (λ e. omega arith) ∙ so.first c h)
            (ap (entries f mean ys) (sym eu) ∙ t.0 ∙ ap (entries f mean xs) ev ∙ so.after q n hn (omega arith));
        second = below_more (λ c. cells f mean w ys q c ≡ a p c) n (λ c h. elsewhere q c (omega arith) (λ e. omega arith) ∙ so.second c h)
            (ap (entries f mean ys) (sym ev) ∙ t.1 ∙ ap (entries f mean xs) eu ∙ so.after p n hn (omega arith));
        rows = λ r c h dp dq. t.2 (r * w + c) (λ e. rows_differ r p w c n h hn dp (e ∙ eu)) (λ e. rows_differ r q w c n h hn dq (e ∙ ev)) ∙ so.rows r c h dp dq;
        after = λ r c h d. elsewhere r c h (λ e. omega arith) ∙ so.after r c h (omega arith);
      }
