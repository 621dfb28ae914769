-- Where the bytes of a block's rows stand.
use Rattle.std.proofs.Common.{◌≡◌, ℕ, zero, suc, ◌*◌, ◌/◌, ◌%◌, ◌<◌, List, length, get_or, sym, ap, ◌∙◌, subst, arith}
use Rattle.std.proofs.lemmas.Nat.{mul-add-lt, same_from_place, div_below, mod_below, div-add-mod'}
use Rattle.std.proofs.lemmas.List.{ext_get_or}
use Rattle.std.proofs.lemmas.List.FromFn.{length-map-range_with_len, get_or-map-range_with_len, fill_by_all}
use Rattle.interleaver.specs.Rows.{place_of, row_of, OneRowAndColumn, RowsDecide}

pub same_place : (rows row column row′ column′ : ℕ) → row < rows → row′ < rows
    → place_of rows row column ≡ place_of rows row′ column′ → (row ≡ row′) × (column ≡ column′)
same_place rows row column row′ column′ h k e =
    let p = same_from_place column row column′ row′ rows h k (omega (arith, e)) in
    (p.1, p.0)

-- the row and column of a place
pub row_and_column : (rows symbols k : ℕ) → k < rows * symbols
    → (row : ℕ) × (column : ℕ) × (row < rows) × (column < symbols) × (place_of rows row column ≡ k)
row_and_column zero symbols k h = absurd (omega arith)
row_and_column (suc r) symbols k h =
    let rows : ℕ = suc r in (
      k % rows,
      k / rows,
      mod_below k rows (omega arith),
      div_below k rows symbols (omega arith) (omega arith),
      omega (arith, div-add-mod' k rows),
    )

module _ (rows symbols : ℕ) where
  pub place_within : (row column : ℕ) → row < rows → column < symbols → place_of rows row column < rows * symbols
  place_within row column h k = omega (arith, mul-add-lt column rows row symbols k h)

  pub one_row_and_column : OneRowAndColumn rows symbols
  one_row_and_column = record { within = place_within; some = row_and_column rows symbols; one = same_place rows }

  pub length-row_of : (block : List ℕ) (row : ℕ) → length (row_of rows symbols block row) ≡ symbols
  length-row_of block row = length-map-range_with_len (λ column. get_or block (place_of rows row column) 0) 0 symbols

  pub get_or-row_of : (block : List ℕ) (row column : ℕ) → column < symbols
      → get_or (row_of rows symbols block row) column 0 ≡ get_or block (place_of rows row column) 0
  get_or-row_of block row column h =
      get_or-map-range_with_len (λ column. get_or block (place_of rows row column) 0) 0 symbols column column 0 h (omega arith)

  -- a word that has the bytes of a row is that row
  pub row_is : (block word : List ℕ) (row : ℕ) → length word ≡ symbols
      → ((column : ℕ) → column < symbols → get_or word column 0 ≡ get_or block (place_of rows row column) 0)
      → word ≡ row_of rows symbols block row
  row_is block word row e same = fill_by_all (λ column. get_or block (place_of rows row column) 0) word symbols 0 e same

  -- blocks that have the same bytes in a row have the same row
  pub same_row : (block other : List ℕ) (row : ℕ)
      → ((column : ℕ) → column < symbols → get_or block (place_of rows row column) 0 ≡ get_or other (place_of rows row column) 0)
      → row_of rows symbols block row ≡ row_of rows symbols other row
  same_row block other row same =
      row_is other (row_of rows symbols block row) row (length-row_of block row)
      (λ column h. get_or-row_of block row column h ∙ same column h)

  -- blocks that have the same byte in a row have the same byte at its place
  pub same_byte_at : (block other : List ℕ) (row column : ℕ) → column < symbols
      → get_or (row_of rows symbols block row) column 0 ≡ get_or (row_of rows symbols other row) column 0
      → get_or block (place_of rows row column) 0 ≡ get_or other (place_of rows row column) 0
  same_byte_at block other row column h e = sym (get_or-row_of block row column h) ∙ e ∙ get_or-row_of other row column h

  pub rows_decide : RowsDecide rows symbols
  rows_decide block other long sized same = ext_get_or 0 block other (long ∙ sym sized) at
    where
      at : (k : ℕ) → k < length block → get_or block k 0 ≡ get_or other k 0
      at k h =
          let p = row_and_column rows symbols k (omega (arith, long)) in
          subst (λ (k : ℕ). get_or block k 0 ≡ get_or other k 0) p.4
          (same_byte_at block other p.0 p.1 p.3 (ap (λ word. get_or word p.1 0) (same p.0 p.2)))
