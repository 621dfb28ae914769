-- Units one behind another, each with its check: where each is found, and the same bytes made of the units that are found.
use Rattle.std.proofs.Common.{◌≡◌, ℕ, zero, suc, ◌+◌, ◌-◌, ◌/◌, ◌%◌, ◌^◌, ◌<◌, ◌≤◌, true, List, [], ◌∷◌, ◌++◌, map, length, get_or, take, drop, replicate, length-take, length-drop, sym, refl, ap, ◌∙◌, subst, ap₂, append_assoc, add-zero, arith, lit<, length-append, take-append-drop, take_at, drop_at, take-add, drop-drop}
use lib.ListN.{length-map}
use Rattle.std.proofs.lemmas.List.{take_more, drop_more}
use Rattle.std.specs.List.{range_with_len}
use Rattle.gf.specs.Bits.{Bits, bits, equal}
use Rattle.gf.specs.Fields.{gf2}
use Rattle.gf.specs.laws.FieldLaws.{laws2}
use Rattle.codes.specs.Polynomials.{zeros}
use Rattle.codes.specs.Division.{remainder_of, admitted}
use Rattle.codes.proofs.LongDivision.{length-remainder}
use Rattle.codes.proofs.Admission.{admitted_begins}
use Rattle.block.specs.Bytes.{word}
use Rattle.block.specs.Checks.{binary, covered, polynomial, fire_generator, fire_word, unit_generator, unit_check}
use Rattle.block.specs.SuperFrames.{two_bytes, checked_units, unit_starts}
use Rattle.block.proofs.Packing.{binary-lt}

-- units in two parts

pub checked_units-append : (us vs : List (List ℕ)) → checked_units (us ++ vs) ≡ checked_units us ++ checked_units vs
checked_units-append [] vs = refl
checked_units-append (u ∷ us) vs =
    ap (λ bs. u ++ (two_bytes (unit_check u) ++ bs)) (checked_units-append us vs)
    ∙ sym (append_assoc u (two_bytes (unit_check u) ++ checked_units us) (checked_units vs))

pub length-checked_units_cons : (u : List ℕ) (us : List (List ℕ)) → length (checked_units (u ∷ us)) ≡ length u + 2 + length (checked_units us)
length-checked_units_cons u us = omega (arith, length-append u (two_bytes (unit_check u) ++ checked_units us))

pub length-checked_units_append : (us vs : List (List ℕ))
    → length (checked_units (us ++ vs)) ≡ length (checked_units us) + length (checked_units vs)
length-checked_units_append us vs = ap length (checked_units-append us vs) ∙ length-append (checked_units us) (checked_units vs)

-- where units start

pub length-unit_starts : (p : ℕ) (us : List (List ℕ)) → length (unit_starts p us) ≡ length us
length-unit_starts p [] = refl
length-unit_starts p (u ∷ us) = ap suc (length-unit_starts (p + length u + 2) us)

pub get_or-unit_starts : (p : ℕ) (us : List (List ℕ)) (n : ℕ) → n < length us
    → get_or (unit_starts p us) n 0 ≡ p + length (checked_units (take n us))
get_or-unit_starts p [] n h = absurd (omega arith)
get_or-unit_starts p (u ∷ us) zero h = sym (add-zero p)
get_or-unit_starts p (u ∷ us) (suc n) h =
    get_or-unit_starts (p + length u + 2) us n (omega arith) ∙ omega (arith, length-checked_units_cons u (take n us))

pub length-checked_units_more : (us : List (List ℕ)) (n : ℕ) → n < length us
    → length (checked_units (take (n + 1) us)) ≡ length (checked_units (take n us)) + length (get_or us n []) + 2
length-checked_units_more us n h =
    ap (λ vs. length (checked_units vs)) (take_more us n [] h) ∙ length-checked_units_append (take n us) (get_or us n [] ∷ [])
    ∙ omega (arith, length-checked_units_cons (get_or us n []) [])

-- the next unit starts behind the check
pub get_or-unit_starts_next : (p : ℕ) (us : List (List ℕ)) (n : ℕ) → n + 1 < length us
    → get_or (unit_starts p us) (n + 1) 0 ≡ get_or (unit_starts p us) n 0 + length (get_or us n []) + 2
get_or-unit_starts_next p us n h =
    omega (arith, get_or-unit_starts p us (n + 1) h, get_or-unit_starts p us n (omega arith), length-checked_units_more us n (omega arith))

-- what is found at a unit's place

pub drop-checked_units : (us : List (List ℕ)) (n : ℕ) → n < length us
    → drop (length (checked_units (take n us))) (checked_units us)
    ≡ get_or us n [] ++ (two_bytes (unit_check (get_or us n [])) ++ checked_units (drop (n + 1) us))
drop-checked_units us n h =
    ap (drop (length (checked_units (take n us))))
    (ap checked_units (sym (take-append-drop n us)) ∙ checked_units-append (take n us) (drop n us))
    ∙ drop_at (checked_units (take n us)) (checked_units (drop n us)) (length (checked_units (take n us))) refl
    ∙ ap checked_units (drop_more us n [] h)

pub unit_found : (us : List (List ℕ)) (n : ℕ) → n < length us
    → take (length (get_or us n [])) (drop (length (checked_units (take n us))) (checked_units us)) ≡ get_or us n []
unit_found us n h =
    ap (take (length (get_or us n []))) (drop-checked_units us n h) ∙ take_at (get_or us n []) _ (length (get_or us n [])) refl

pub check_found : (us : List (List ℕ)) (n : ℕ) → n < length us
    → take 2 (drop (length (checked_units (take n us)) + length (get_or us n [])) (checked_units us)) ≡ two_bytes (unit_check (get_or us n []))
check_found us n h =
    ap (take 2)
    (sym (drop-drop (length u) (length (checked_units (take n us))) (checked_units us)) ∙ ap (drop (length u)) (drop-checked_units us n h)
    ∙ drop_at u (two_bytes (unit_check u) ++ checked_units (drop (n + 1) us)) (length u) refl)
  where
    u : List ℕ
    u = get_or us n []

-- two bytes and their number

pub word-two_bytes : (w : ℕ) (rest : List ℕ) → word (two_bytes w ++ rest) 0 ≡ w
word-two_bytes w rest = omega arith

pub two_bytes_lt : (w : ℕ) → w < 65536 → (w / 256 < 256) × (w % 256 < 256)
two_bytes_lt w h = (omega arith, omega arith)

pub two_bytes-word : (b : List ℕ) (k : ℕ) → get_or b (k + 1) 0 < 256 → k + 2 ≤ length b → two_bytes (word b k) ≡ take 2 (drop k b)
two_bytes-word b k h l =
    ap₂ (λ (x y : ℕ). x ∷ y ∷ []) high low
    ∙ sym (ap (take 2) (drop_more b k 0 (omega arith) ∙ ap (λ bs. get_or b k 0 ∷ bs) (drop_more b (k + 1) 0 (omega arith))))
  where
    high : word b k / 256 ≡ get_or b k 0
    high = omega arith

    low : word b k % 256 ≡ get_or b (k + 1) 0
    low = omega arith

-- the checks have sixteen bits

remainder_long : (w g : List (Bits 1)) → admitted gf2 g 16 ≡ true → length (remainder_of gf2 w g) ≡ 16
remainder_long w g ok =
    ap (λ h. length (remainder_of gf2 w h)) b.1 ∙ length-remainder laws2 b.0 w ∙ b.2
  where
    b : (d : List (Bits 1)) × (g ≡ gf2.one ∷ d) × (length d ≡ 16) × (1 ≤ 16)
    b = admitted_begins laws2 16 g ok

binary_short : (p : List (Bits 1)) → length p ≡ 16 → binary 0 p < 65536
binary_short p e = subst (λ (k : ℕ). binary 0 p < 2 ^ (0 + k)) e (binary-lt 0 0 p (lit< tt))

fire_admits : admitted gf2 fire_generator 16 ≡ true
unfolding bits equal
fire_admits = refl

unit_admits : admitted gf2 unit_generator 16 ≡ true
unfolding bits equal
unit_admits = refl

pub fire_word_lt : (bytes : List ℕ) → fire_word bytes < 65536
fire_word_lt bytes =
    let message = polynomial bytes ++ zeros gf2 16 in
    binary_short (remainder_of gf2 message fire_generator) (remainder_long message fire_generator fire_admits)

pub unit_check_lt : (unit : List ℕ) → unit_check unit < 65536
unit_check_lt unit =
    let message = covered (replicate 16 gf2.one) unit in
    let rest = remainder_of gf2 message unit_generator in
    binary_short (map (gf2.add gf2.one) rest) (length-map rest (gf2.add gf2.one) ∙ remainder_long message unit_generator unit_admits)

-- the bytes from i to j, and on to k
pub glued : (b : List ℕ) (i j k : ℕ) → i ≤ j → j ≤ k → take (j - i) (drop i b) ++ take (k - j) (drop j b) ≡ take (k - i) (drop i b)
glued b i j k h l =
    ap (λ bs. take (j - i) (drop i b) ++ take (k - j) bs) (ap (λ (n : ℕ). drop n b) there ∙ sym (drop-drop (j - i) i b))
    ∙ sym (take-add (j - i) (k - j) (drop i b)) ∙ ap (λ (n : ℕ). take n (drop i b)) long
  where
    there : j ≡ i + (j - i)
    there = omega arith

    long : j - i + (k - j) ≡ k - i
    long = omega arith

-- unit n of bytes with these starts: from its start to the check before the next
abbrev pub unit_of : List ℕ → List ℕ → ℕ → List ℕ
unit_of b s n = take (get_or s (n + 1) 0 - 2 - get_or s n 0) (drop (get_or s n 0) b)

module _ (b s : List ℕ) (m : ℕ) (apart : (n : ℕ) → n < m → get_or s n 0 + 3 ≤ get_or s (n + 1) 0) (within : get_or s m 0 ≤ length b) where
  rising : (count a : ℕ) → a + count ≡ m → get_or s a 0 ≤ get_or s m 0
  rising zero a e = omega (arith, ap (λ (n : ℕ). get_or s n 0) (sym (add-zero a) ∙ e))
  rising (suc count) a e = omega (arith, apart a (omega arith), rising count (a + 1) (omega arith))

  pub unit_end : (n : ℕ) → n < m → get_or s (n + 1) 0 ≤ length b
  unit_end n h = omega (arith, within, rising (m - (n + 1)) (n + 1) (omega arith))

  pub length-unit_of : (n : ℕ) → n < m → get_or s n 0 + length (unit_of b s n) + 2 ≡ get_or s (n + 1) 0
  length-unit_of n h =
      omega (arith, length-take (get_or s (n + 1) 0 - 2 - get_or s n 0) (drop (get_or s n 0) b), length-drop (get_or s n 0) b, unit_end n h, apart n h)

  -- the units that are found start where they were found
  pub unit_starts-found : (count a : ℕ) → a + count ≡ m
      → unit_starts (get_or s a 0) (map (unit_of b s) (range_with_len a count)) ≡ map (λ n. get_or s n 0) (range_with_len a count)
  unit_starts-found zero a e = refl
  unit_starts-found (suc count) a e =
      ap (λ ns. get_or s a 0 ∷ ns)
      (ap (λ (p : ℕ). unit_starts p (map (unit_of b s) (range_with_len (a + 1) count))) (length-unit_of a (omega arith))
      ∙ unit_starts-found count (a + 1) (omega arith))

  module _ (bytes : (k : ℕ) → get_or b k 0 < 256)
      (checks : (n : ℕ) → n < m → word b (get_or s (n + 1) 0 - 2) ≡ unit_check (unit_of b s n)) where
    found_from : (count a : ℕ) → a + count ≡ m
        → checked_units (map (unit_of b s) (range_with_len a count)) ≡ take (get_or s m 0 - get_or s a 0) (drop (get_or s a 0) b)
    found_from zero a e = ap (λ (n : ℕ). take n (drop (get_or s a 0) b)) none
      where
        none : 0 ≡ get_or s m 0 - get_or s a 0
        none = omega (arith, ap (λ (n : ℕ). get_or s n 0) (sym (add-zero a) ∙ e))
    found_from (suc count) a e =
        ap₂ (λ c bs. unit_of b s a ++ (c ++ bs)) check (found_from count (a + 1) (omega arith))
        ∙ ap (λ bs. unit_of b s a ++ bs) (glued b (next - 2) next last (omega arith) (rising count (a + 1) (omega arith)))
        ∙ glued b (get_or s a 0) (next - 2) last (omega (arith, gap)) (omega (arith, rising count (a + 1) (omega arith)))
      where
        next : ℕ
        next = get_or s (a + 1) 0

        last : ℕ
        last = get_or s m 0

        gap : get_or s a 0 + 3 ≤ next
        gap = apart a (omega arith)

        two : 2 ≡ next - (next - 2)
        two = omega (arith, gap)

        check : two_bytes (unit_check (unit_of b s a)) ≡ take (next - (next - 2)) (drop (next - 2) b)
        check =
            ap two_bytes (sym (checks a (omega arith)))
            ∙ two_bytes-word b (next - 2) (bytes (next - 2 + 1)) (omega (arith, gap, unit_end a (omega arith)))
            ∙ ap (λ (n : ℕ). take n (drop (next - 2) b)) two

    -- the bytes that units were found in, where each check fits
    pub checked_units-found : checked_units (map (unit_of b s) (range_with_len 0 m)) ≡ take (get_or s m 0 - get_or s 0 0) (drop (get_or s 0 0) b)
    checked_units-found = found_from m 0 (omega arith)
