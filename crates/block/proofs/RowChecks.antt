-- The checks of the rows of a super frame: a block whose rows are codewords is its data with all their checks behind.
use Rattle.std.proofs.Common.{◌≡◌, ℕ, ◌+◌, ◌-◌, ◌*◌, ◌/◌, ◌%◌, ◌<◌, ◌≤◌, List, ◌++◌, map, length, get_or, take, drop, sym, ap, ◌∙◌, subst, lit<, ap₂, ⊎_elim, arith, length-append, length-drop, take-append-drop, mod-lt}
use mathlib.Core.List.{map-append}
use lib.ListN.{length-map}
use Rattle.std.proofs.Math.Nat.{mul-le-mul_left, mod-add-div}
use Rattle.std.proofs.lemmas.Bool.{cases_lt}
use Rattle.std.proofs.lemmas.Nat.{div_below, div-mul-add, mod-mul-add}
use Rattle.std.proofs.lemmas.List.{get_or_past, get_or-take, get_or-drop, get_or_append_left, get_or-append_right, take-map}
use Rattle.std.proofs.lemmas.List.FromFn.{length-map-range_with_len, get_or-map-range_with_len, take-map-range_with_len, fill_by_all}
use Rattle.gf.specs.Bits.{bits, number}
use Rattle.gf.specs.Fields.{gf256}
use Rattle.gf.specs.laws.FieldLaws.{laws256}
use Rattle.codes.specs.Codewords.{Codeword, checks_of}
use Rattle.codes.proofs.ChecksOf.{length-checks_of, codeword-checks_of, codeword_is}
use Rattle.interleaver.specs.Rows.{place_of, row_of, elements, ChecksFilled, AreBytes, AllCodewords}
use Rattle.interleaver.proofs.Bytes.{number-elements, elements-number, bytes-number}
use Rattle.interleaver.proofs.Places.{place_within, length-row_of, get_or-row_of}
use Rattle.interleaver.proofs.Repairing.{AreBytes-row_of}
use Rattle.block.specs.SuperFrames.{row_checks, all_row_checks}

-- the bytes of a row

row_of-take : (rows n front : ℕ) (block : List ℕ) (row : ℕ) → row < rows → front ≡ rows * n
    → row_of rows n (take front block) row ≡ row_of rows n block row
row_of-take rows n front block row h e =
    fill_by_all (λ column. get_or block (place_of rows row column) 0) (row_of rows n (take front block) row) n 0
    (length-row_of rows n (take front block) row)
    (λ column k. get_or-row_of rows n (take front block) row column k
    ∙ get_or-take front block (place_of rows row column) 0 (omega (arith, place_within rows n row column h k)))

-- the rows of the data are the fronts of the rows
pub row_of-data : (size : ℕ) (block : List ℕ) (i : ℕ) → i < size
    → row_of size 110 (take (110 * size) block) i ≡ take 110 (row_of size 120 block i)
row_of-data size block i h =
    row_of-take size 110 (110 * size) block i h (omega arith)
    ∙ sym (take-map-range_with_len (λ column. get_or block (place_of size i column) 0) 0 120 110 (omega arith))

-- the checks of rows

pub length-row_checks : (size : ℕ) (frame : List ℕ) (i : ℕ) → length (row_checks size frame i) ≡ 10
length-row_checks size frame i =
    length-map (checks_of gf256 10 (elements (row_of size 110 frame i))) (number 8)
    ∙ length-checks_of laws256 10 (elements (row_of size 110 frame i))

-- byte k of all checks
abbrev check : ℕ → List ℕ → ℕ → ℕ
check size frame k = get_or (row_checks size frame (k % size)) (k / size) 0

pub length-all_row_checks : (size : ℕ) (frame : List ℕ) → length (all_row_checks size frame) ≡ 10 * size
length-all_row_checks size frame = length-map-range_with_len (check size frame) 0 (10 * size)

get_or-all_row_checks : (size : ℕ) (frame : List ℕ) (k : ℕ) → k < 10 * size
    → get_or (all_row_checks size frame) k 0 ≡ get_or (row_checks size frame (k % size)) (k / size) 0
get_or-all_row_checks size frame k h = get_or-map-range_with_len (check size frame) 0 (10 * size) k k 0 h (omega arith)

pub bytes-all_row_checks : (size : ℕ) (frame : List ℕ) → AreBytes (all_row_checks size frame)
bytes-all_row_checks size frame k =
    let is_byte : ℕ → Type 0 = λ b. b < 256 in
    ⊎_elim (λ (h : k < 10 * size). subst is_byte (sym (get_or-all_row_checks size frame k h))
    (bytes-number (checks_of gf256 10 (elements (row_of size 110 frame (k % size)))) (k / size)))
    (λ (h : 10 * size ≤ k). subst is_byte (sym (get_or_past (all_row_checks size frame) k 0 (omega (arith, length-all_row_checks size frame)))) (lit< tt))
    (cases_lt k (10 * size))

-- a frame with its checks

-- where byte k behind the data stands
place_behind : (size row column k : ℕ) → row + size * column ≡ k → 110 * size + k ≡ place_of size row (110 + column)
place_behind size row column k e = omega arith

-- a block of such rows is its data with all checks behind
block_is : (size : ℕ) (block : List ℕ) → 1 ≤ size → length block ≡ 120 * size
    → ((i : ℕ) → i < size → row_of size 120 block i ≡ row_of size 110 (take (110 * size) block) i ++ row_checks size (take (110 * size) block) i)
    → block ≡ take (110 * size) block ++ all_row_checks size (take (110 * size) block)
block_is size block some long rows =
    sym (take-append-drop (110 * size) block)
    ∙ ap (λ checks. frame ++ checks) (fill_by_all (check size frame) (drop (110 * size) block) (10 * size) 0
    (length-drop (110 * size) block ∙ omega arith) at)
  where
    frame : List ℕ
    frame = take (110 * size) block

    at : (k : ℕ) → k < 10 * size → get_or (drop (110 * size) block) k 0 ≡ check size frame k
    at k h = by (k % size) (k / size) (mod-lt k some) (div_below k size 10 some h) (mod-add-div k size)
      where
        by : (i j : ℕ) → i < size → j < 10 → i + size * j ≡ k → get_or (drop (110 * size) block) k 0 ≡ get_or (row_checks size frame i) j 0
        by i j hi hj e =
            get_or-drop (110 * size) block k 0
            ∙ ap (λ (p : ℕ). get_or block p 0) (place_behind size i j k e)
            ∙ sym (get_or-row_of size 120 block i (110 + j) (omega arith))
            ∙ ap (λ row. get_or row (110 + j) 0) (rows i hi)
            ∙ get_or-append_right (row_of size 110 frame i) (row_checks size frame i) 110 (110 + j) 0
            (length-row_of size 110 frame i) (omega arith)
            ∙ ap (λ (c : ℕ). get_or (row_checks size frame i) c 0) (omega arith)

-- a row that is a codeword is its data with their checks behind
row_of-codeword : (size : ℕ) (block : List ℕ) (i : ℕ) → i < size → AreBytes block → Codeword gf256 10 (elements (row_of size 120 block i))
    → row_of size 120 block i ≡ row_of size 110 (take (110 * size) block) i ++ row_checks size (take (110 * size) block) i
row_of-codeword size block i h bytes c =
    sym (number-elements row (AreBytes-row_of size 120 block i bytes))
    ∙ ap (map (number 8)) (whole ∙ ap (λ word. word ++ checks_of gf256 10 word) fronts)
    ∙ map-append (number 8) (elements front) (checks_of gf256 10 (elements front))
    ∙ ap (λ bytes. bytes ++ row_checks size (take (110 * size) block) i) (number-elements front front_bytes)
  where
    row : List ℕ
    row = row_of size 120 block i

    front : List ℕ
    front = row_of size 110 (take (110 * size) block) i

    front_bytes : AreBytes front
    front_bytes =
        subst AreBytes (sym (row_of-take size 110 (110 * size) block i h (omega arith))) (AreBytes-row_of size 110 block i bytes)

    long : length (elements row) ≡ 120
    long = length-map row (bits 8) ∙ length-row_of size 120 block i

    less : length (elements row) - 10 ≡ 110
    less = omega (arith, long)

    whole : elements row ≡ take 110 (elements row) ++ checks_of gf256 10 (take 110 (elements row))
    whole =
        codeword_is laws256 10 (elements row) (omega (arith, long)) (omega (arith, long)) c
        ∙ ap (λ (k : ℕ). take k (elements row) ++ checks_of gf256 10 (take k (elements row))) less

    fronts : take 110 (elements row) ≡ elements front
    fronts = take-map (bits 8) 110 row ∙ ap elements (sym (row_of-data size block i h))

-- a block whose rows are all codewords is known by its data
pub codewords_are : (size : ℕ) (block : List ℕ) → 1 ≤ size → length block ≡ 120 * size → AreBytes block → AllCodewords size 120 10 block
    → block ≡ take (110 * size) block ++ all_row_checks size (take (110 * size) block)
codewords_are size block some long bytes all = block_is size block some long (λ i h. row_of-codeword size block i h bytes (all i h))

-- filling the checks of the rows writes these
pub filled_is : (size : ℕ) (before after : List ℕ) → 1 ≤ size → length before ≡ 120 * size → AreBytes after → ChecksFilled size 120 10 before after
    → after ≡ take (110 * size) before ++ all_row_checks size (take (110 * size) before)
filled_is size before after some long bytes m =
    codewords_are size after some (m.long ∙ long) bytes (λ i h. (m.by_row i h).codeword)
    ∙ ap (λ frame. frame ++ all_row_checks size frame) kept
  where
    data_long : 110 * size ≡ size * (120 - 10)
    data_long = omega arith

    kept : take (110 * size) after ≡ take (110 * size) before
    kept =
        ap (λ (k : ℕ). take k after) data_long ∙ m.data_kept ∙ ap (λ (k : ℕ). take k before) (sym data_long)

row_of-append : (size : ℕ) (frame : List ℕ) (i : ℕ) → i < size → length frame ≡ 110 * size
    → row_of size 120 (frame ++ all_row_checks size frame) i ≡ row_of size 110 frame i ++ row_checks size frame i
row_of-append size frame i h long =
    sym (fill_by_all (λ column. get_or block (place_of size i column) 0) (row_of size 110 frame i ++ row_checks size frame i) 120 0
    (length-append (row_of size 110 frame i) (row_checks size frame i)
    ∙ ap₂ (λ (m n : ℕ). m + n) (length-row_of size 110 frame i) (length-row_checks size frame i)) at)
  where
    block : List ℕ
    block = frame ++ all_row_checks size frame

    behind : (j : ℕ) → j < 10 → get_or (row_checks size frame i) j 0 ≡ get_or (all_row_checks size frame) (j * size + i) 0
    behind j k =
        sym (get_or-all_row_checks size frame (j * size + i) (omega (arith, place_within size 10 i j h k))
        ∙ ap₂ (λ (row column : ℕ). get_or (row_checks size frame row) column 0) (mod-mul-add j size i h) (div-mul-add j size i h))

    at : (k : ℕ) → k < 120 → get_or (row_of size 110 frame i ++ row_checks size frame i) k 0 ≡ get_or block (place_of size i k) 0
    at k m =
        ⊎_elim (λ (q : k < 110). get_or_append_left (row_of size 110 frame i) (row_checks size frame i) 0 k (omega (arith, length-row_of size 110 frame i))
        ∙ get_or-row_of size 110 frame i k q
        ∙ sym (get_or_append_left frame (all_row_checks size frame) 0 (place_of size i k) (omega (arith, place_within size 110 i k h q))))
        (λ (q : 110 ≤ k). get_or-append_right (row_of size 110 frame i) (row_checks size frame i) 110 k 0 (length-row_of size 110 frame i) q
        ∙ behind (k - 110) (omega arith)
        ∙ ap (λ (p : ℕ). get_or (all_row_checks size frame) p 0) (far (k - 110) (omega arith))
        ∙ sym (get_or-append_right frame (all_row_checks size frame) (110 * size) (place_of size i k) 0 long (omega (arith, mul-le-mul_left size q))))
        (cases_lt k 110)
      where
        far : (j : ℕ) → k ≡ 110 + j → j * size + i ≡ place_of size i k - 110 * size
        far j e = omega (arith, ap (λ (n : ℕ). size * n) e)

-- with all their checks behind, data make a block whose rows are all codewords
pub all_codewords : (size : ℕ) (frame : List ℕ) → length frame ≡ 110 * size → AllCodewords size 120 10 (frame ++ all_row_checks size frame)
all_codewords size frame long i h =
    subst (Codeword gf256 10) (sym is) (codeword-checks_of laws256 10 (elements (row_of size 110 frame i)) (omega arith))
  where
    is : elements (row_of size 120 (frame ++ all_row_checks size frame) i)
        ≡ elements (row_of size 110 frame i) ++ checks_of gf256 10 (elements (row_of size 110 frame i))
    is =
        ap elements (row_of-append size frame i h long) ∙ map-append (bits 8) (row_of size 110 frame i) (row_checks size frame i)
        ∙ ap (λ word. elements (row_of size 110 frame i) ++ word) (elements-number (checks_of gf256 10 (elements (row_of size 110 frame i))))
