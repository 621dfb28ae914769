-- The packed starts: numbers of twelve bits that are written and read back, and read and written back.
use Rattle.std.proofs.Common.{◌≡◌, ℕ, zero, suc, ◌+◌, ◌-◌, ◌*◌, ◌/◌, ◌%◌, ◌^◌, ◌<◌, ◌≤◌, List, [], ◌∷◌, ◌++◌, map, length, get_or, take, drop, sym, refl, ap, ◌∙◌, ap₂, ⊎_elim, zero-add, add-zero, add_assoc, pow-suc, arith, lit<}
use native.Mathlib.Nat.{pow-zero}
use Rattle.std.proofs.lemmas.List.{get_or-drop, get_or_past}
use Rattle.std.proofs.lemmas.List.FromFn.{get_or-map-range_with_len, length-map-range_with_len}
use Rattle.std.proofs.lemmas.Bool.{cases_lt}
use Rattle.std.specs.List.{range_with_len}
use Rattle.block.specs.Bytes.{bit, unsigned}
use Rattle.block.specs.SuperFrames.{digits, packed}
use Rattle.block.proofs.Reading.{unsigned_lower, unsigned_first, unsigned_second}

-- a number behind the first k bytes

bit-drop : (b : List ℕ) (k j : ℕ) → bit (drop k b) j ≡ bit b (8 * k + j)
bit-drop b k j =
    ap₂ (λ (x e : ℕ). x / 2 ^ (7 - e) % 2) (get_or-drop k b (j / 8) 0 ∙ ap (λ (i : ℕ). get_or b i 0) quotient) rest
  where
    quotient : k + j / 8 ≡ (8 * k + j) / 8
    quotient = omega arith

    rest : j % 8 ≡ (8 * k + j) % 8
    rest = omega arith

pub unsigned-drop : (b : List ℕ) (k from w : ℕ) → unsigned (drop k b) from w ≡ unsigned b (8 * k + from) w
unfolding unsigned
unsigned-drop b k from zero = refl
unsigned-drop b k from (suc w) =
    ap₂ (λ (m n : ℕ). m * 2 + n) (unsigned-drop b k from w) (bit-drop b k (from + w) ∙ ap (bit b) (sym (add_assoc (8 * k) from w)))

pub unsigned_lt : (b : List ℕ) (from w : ℕ) → unsigned b from w < 2 ^ w
unfolding unsigned
unsigned_lt b from zero = omega (arith, pow-zero 2)
unsigned_lt b from (suc w) = omega (arith, pow-suc 2 w, unsigned_lt b from w)

-- two numbers in three bytes

module _ (p q x y z : ℕ) where
  three_bytes : x < 256 → y < 256 → z < 256 → p ≡ (x * 256 + y) / 16 → q ≡ (y * 256 + z) % 4096
      → (p / 256 * 16 + p / 16 % 16 ≡ x) × (p % 16 * 16 + q / 256 ≡ y) × (q / 16 % 16 * 16 + q % 16 ≡ z)
  three_bytes hx hy hz hp hq = (omega arith, omega arith, omega arith)

-- how many bytes are packed, and their bound

pub length-packed : (ns : List ℕ) → length (packed (digits ns)) ≡ (3 * length ns + 1) / 2
length-packed [] = refl
length-packed (a ∷ []) = refl
length-packed (a ∷ b ∷ ns) = omega (arith, length-packed ns)

pub packed_lt : (ns : List ℕ) → ((k : ℕ) → get_or ns k 0 < 4096) → (k : ℕ) → get_or (packed (digits ns)) k 0 < 256
packed_lt [] h k = lit< tt
packed_lt (a ∷ []) h zero = omega (arith, h 0)
packed_lt (a ∷ []) h (suc zero) = omega arith
packed_lt (a ∷ []) h (suc (suc k)) = lit< tt
packed_lt (a ∷ b ∷ ns) h zero = omega (arith, h 0)
packed_lt (a ∷ b ∷ ns) h (suc zero) = omega (arith, h 1)
packed_lt (a ∷ b ∷ ns) h (suc (suc zero)) = omega arith
packed_lt (a ∷ b ∷ ns) h (suc (suc (suc k))) = packed_lt ns (λ i. h (suc (suc i))) k

-- one digit, and one byte

-- a number by its three digits
abbrev pub digit_of : ℕ → ℕ → ℕ
digit_of n zero = n / 256
digit_of n (suc zero) = n / 16 % 16
digit_of n (suc (suc k)) = n % 16

pub get_or-digits : (ns : List ℕ) (k : ℕ) → get_or (digits ns) k 0 ≡ digit_of (get_or ns (k / 3) 0) (k % 3)
get_or-digits [] k = sym (nothing (k % 3))
  where
    nothing : (r : ℕ) → digit_of 0 r ≡ 0
    nothing zero = refl
    nothing (suc zero) = refl
    nothing (suc (suc r)) = refl
get_or-digits (a ∷ ns) zero = refl
get_or-digits (a ∷ ns) (suc zero) = refl
get_or-digits (a ∷ ns) (suc (suc zero)) = refl
get_or-digits (a ∷ ns) (suc (suc (suc k))) =
    get_or-digits ns k ∙ ap₂ (λ (q r : ℕ). digit_of (get_or (a ∷ ns) q 0) r) quotient rest
  where
    quotient : suc (k / 3) ≡ suc (suc (suc k)) / 3
    quotient = omega arith

    rest : k % 3 ≡ suc (suc (suc k)) % 3
    rest = omega arith

pub get_or-packed : (ds : List ℕ) (k : ℕ) → get_or (packed ds) k 0 ≡ get_or ds (2 * k) 0 * 16 + get_or ds (2 * k + 1) 0
get_or-packed [] k = refl
get_or-packed (high ∷ []) zero = sym (add-zero (high * 16))
get_or-packed (high ∷ []) (suc k) =
    sym (ap₂ (λ (i j : ℕ). get_or (high ∷ []) i 0 * 16 + get_or (high ∷ []) j 0) (let e : 2 * suc k ≡ suc (2 * k + 1) = omega arith in e)
    (let e : 2 * suc k + 1 ≡ suc (2 * k + 2) = omega arith in e))
get_or-packed (high ∷ low ∷ ds) zero = refl
get_or-packed (high ∷ low ∷ ds) (suc k) =
    get_or-packed ds k
    ∙ ap₂ (λ (i j : ℕ). get_or (high ∷ low ∷ ds) i 0 * 16 + get_or (high ∷ low ∷ ds) j 0)
    (let e : suc (suc (2 * k)) ≡ 2 * suc k = omega arith in e) (let e : suc (suc (2 * k + 1)) ≡ 2 * suc k + 1 = omega arith in e)

-- what was packed is read

first_read : (a y : ℕ) (rest : List ℕ) → a < 4096 → y < 256 → y / 16 ≡ a % 16 → unsigned ((a / 256 * 16 + a / 16 % 16) ∷ y ∷ rest) 0 12 ≡ a
first_read a y rest h k e =
    unsigned_first ((a / 256 * 16 + a / 16 % 16) ∷ y ∷ rest) 0 (omega arith) k ∙ joined
  where
    joined : ((a / 256 * 16 + a / 16 % 16) * 256 + y) / 16 ≡ a
    joined = omega arith

second_read : (x high b : ℕ) (rest : List ℕ) → b < 4096
    → unsigned (x ∷ (high * 16 + b / 256) ∷ (b / 16 % 16 * 16 + b % 16) ∷ rest) 12 12 ≡ b
second_read x high b rest h =
    unsigned_second (x ∷ (high * 16 + b / 256) ∷ (b / 16 % 16 * 16 + b % 16) ∷ rest) 1 (omega arith) ∙ joined
  where
    joined : ((high * 16 + b / 256) * 256 + (b / 16 % 16 * 16 + b % 16)) % 4096 ≡ b
    joined = omega arith

pub unsigned-packed : (ns rest : List ℕ) → ((k : ℕ) → get_or ns k 0 < 4096) → (n : ℕ) → n < length ns
    → unsigned (packed (digits ns) ++ rest) (12 * n) 12 ≡ get_or ns n 0
unsigned-packed [] rest h n l = absurd (omega arith)
unsigned-packed (a ∷ []) rest h zero l = first_read a (a % 16 * 16) rest (h 0) (omega arith) (omega arith)
unsigned-packed (a ∷ []) rest h (suc n) l = absurd (omega arith)
unsigned-packed (a ∷ b ∷ ns) rest h zero l = first_read a (a % 16 * 16 + b / 256) _ (h 0) (omega (arith, h 1)) (omega (arith, h 1))
unsigned-packed (a ∷ b ∷ ns) rest h (suc zero) l = second_read _ (a % 16) b _ (h 1)
unsigned-packed (a ∷ b ∷ ns) rest h (suc (suc n)) l =
    ap (λ (from : ℕ). unsigned (packed (digits (a ∷ b ∷ ns)) ++ rest) from 12) place
    ∙ sym (unsigned-drop (packed (digits (a ∷ b ∷ ns)) ++ rest) 3 (12 * n) 12)
    ∙ unsigned-packed ns rest (λ i. h (suc (suc i))) n (omega arith)
  where
    place : 12 * suc (suc n) ≡ 8 * 3 + 12 * n
    place = omega arith

-- four zero bits fill the last byte of an odd row
pub unsigned-packed_odd : (ns rest : List ℕ) → length ns % 2 ≡ 1 → unsigned (packed (digits ns) ++ rest) (12 * length ns) 4 ≡ 0
unsigned-packed_odd [] rest h = absurd (omega arith)
unsigned-packed_odd (a ∷ []) rest h = unsigned_lower (packed (digits (a ∷ [])) ++ rest) 1 ∙ filled
  where
    filled : a % 16 * 16 % 16 ≡ 0
    filled = omega arith
unsigned-packed_odd (a ∷ b ∷ ns) rest h =
    ap (λ (from : ℕ). unsigned (packed (digits (a ∷ b ∷ ns)) ++ rest) from 4) place
    ∙ sym (unsigned-drop (packed (digits (a ∷ b ∷ ns)) ++ rest) 3 (12 * length ns) 4)
    ∙ unsigned-packed_odd ns rest (omega arith)
  where
    place : 12 * suc (suc (length ns)) ≡ 8 * 3 + 12 * length ns
    place = omega arith

-- what was read is packed

-- the first m numbers of twelve bits
abbrev pub numbers : List ℕ → ℕ → List ℕ
numbers b m = map (λ n. unsigned b (12 * n) 12) (range_with_len 0 m)

pub numbers_lt : (b : List ℕ) (m k : ℕ) → get_or (numbers b m) k 0 < 4096
numbers_lt b m k =
    ⊎_elim
    (λ (h : k < m). omega (arith, get_or-map-range_with_len (λ n. unsigned b (12 * n) 12) 0 m k k 0 h (zero-add k), unsigned_lt b (12 * k) 12))
    (λ (h : m ≤ k). omega (arith, get_or_past (numbers b m) k 0 (omega (arith, length-map-range_with_len (λ n. unsigned b (12 * n) 12) 0 m))))
    (cases_lt k m)

map-shift : (f g : ℕ → ℕ) (a c m : ℕ) → ((n : ℕ) → f (a + n) ≡ g (c + n)) → map f (range_with_len a m) ≡ map g (range_with_len c m)
map-shift f g a c zero h = refl
map-shift f g a c (suc m) h =
    ap₂ (λ (x : ℕ) xs. x ∷ xs) first (map-shift f g (a + 1) (c + 1) m later)
  where
    first : f a ≡ g c
    first = ap f (sym (add-zero a)) ∙ h 0 ∙ ap g (add-zero c)

    later : (n : ℕ) → f (a + 1 + n) ≡ g (c + 1 + n)
    later n = ap f (add_assoc a 1 n) ∙ h (1 + n) ∙ ap g (sym (add_assoc c 1 n))

numbers-three : (x y z : ℕ) (b : List ℕ) (m : ℕ)
    → map (λ n. unsigned (x ∷ y ∷ z ∷ b) (12 * n) 12) (range_with_len 2 m) ≡ numbers b m
numbers-three x y z b m = map-shift _ _ 2 0 m step
  where
    step : (n : ℕ) → unsigned (x ∷ y ∷ z ∷ b) (12 * (2 + n)) 12 ≡ unsigned b (12 * (0 + n)) 12
    step n =
        ap (λ (from : ℕ). unsigned (x ∷ y ∷ z ∷ b) from 12) place ∙ sym (unsigned-drop (x ∷ y ∷ z ∷ b) 3 (12 * (0 + n)) 12)
      where
        place : 12 * (2 + n) ≡ 8 * 3 + 12 * (0 + n)
        place = omega arith

packed-three : (x y z : ℕ) (b : List ℕ) (m : ℕ) → x < 256 → y < 256 → z < 256
    → packed (digits (numbers (x ∷ y ∷ z ∷ b) (suc (suc m)))) ≡ x ∷ y ∷ z ∷ packed (digits (numbers b m))
packed-three x y z b m hx hy hz =
    ap₂ (λ (v : ℕ) vs. v ∷ vs) t.0
    (ap₂ (λ (v : ℕ) vs. v ∷ vs) t.1 (ap₂ (λ (v : ℕ) vs. v ∷ vs) t.2 (ap (λ ns. packed (digits ns)) (numbers-three x y z b m))))
  where
    p : ℕ
    p = unsigned (x ∷ y ∷ z ∷ b) 0 12

    q : ℕ
    q = unsigned (x ∷ y ∷ z ∷ b) 12 12

    t : (p / 256 * 16 + p / 16 % 16 ≡ x) × (p % 16 * 16 + q / 256 ≡ y) × (q / 16 % 16 * 16 + q % 16 ≡ z)
    t = three_bytes p q x y z hx hy hz (unsigned_first (x ∷ y ∷ z ∷ b) 0 hx hy) (unsigned_second (x ∷ y ∷ z ∷ b) 1 hz)

-- the bytes that m numbers were read from, where zeros fill the last byte
pub packed-numbers : (b : List ℕ) (m : ℕ) → ((k : ℕ) → get_or b k 0 < 256) → (3 * m + 1) / 2 ≤ length b
    → (m % 2 ≡ 1 → unsigned b (12 * m) 4 ≡ 0) → packed (digits (numbers b m)) ≡ take ((3 * m + 1) / 2) b
packed-numbers b zero h l fill = refl
packed-numbers [] (suc m) h l fill = absurd (omega arith)
packed-numbers (x ∷ []) (suc m) h l fill = absurd (omega arith)
packed-numbers (x ∷ y ∷ b) (suc zero) h l fill =
    ap₂ (λ (v w : ℕ). v ∷ w ∷ []) upper lower
  where
    p : ℕ
    p = unsigned (x ∷ y ∷ b) 0 12

    read : p ≡ (x * 256 + y) / 16
    read = unsigned_first (x ∷ y ∷ b) 0 (h 0) (h 1)

    filled : y % 16 ≡ 0
    filled = sym (unsigned_lower (x ∷ y ∷ b) 1) ∙ fill refl

    upper : p / 256 * 16 + p / 16 % 16 ≡ x
    upper = omega (arith, h 0, h 1, read)

    lower : p % 16 * 16 ≡ y
    lower = omega (arith, h 0, h 1, read, filled)
packed-numbers (x ∷ y ∷ []) (suc (suc m)) h l fill = absurd (omega arith)
packed-numbers (x ∷ y ∷ z ∷ b) (suc (suc m)) h l fill =
    packed-three x y z b m (h 0) (h 1) (h 2)
    ∙ ap (λ bs. x ∷ y ∷ z ∷ bs) (packed-numbers b m (λ k. h (suc (suc (suc k)))) (omega arith) (λ o. later (fill (omega arith))))
    ∙ ap (λ (n : ℕ). take n (x ∷ y ∷ z ∷ b)) many
  where
    place : 8 * 3 + 12 * m ≡ 12 * suc (suc m)
    place = omega arith

    later : unsigned (x ∷ y ∷ z ∷ b) (12 * suc (suc m)) 4 ≡ 0 → unsigned b (12 * m) 4 ≡ 0
    later e = unsigned-drop (x ∷ y ∷ z ∷ b) 3 (12 * m) 4 ∙ ap (λ (from : ℕ). unsigned (x ∷ y ∷ z ∷ b) from 4) place ∙ e

    many : suc (suc (suc ((3 * m + 1) / 2))) ≡ (3 * suc (suc m) + 1) / 2
    many = omega arith
