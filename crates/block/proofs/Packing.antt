-- The number that bits write: its bound, one bit more, and the complement.
use Rattle.std.proofs.Common.{◌≡◌, ℕ, suc, ◌+◌, ◌-◌, ◌*◌, ◌%◌, ◌^◌, ◌<◌, ◌≤◌, true, false, List, [], ◌∷◌, ◌++◌, map, length, get_or, take, sym, refl, ap, ◌∙◌, subst, ap₂, add-zero, mul_assoc, pow-suc, mul-one, arith, lit<, length-take, pow_mono}
use lib.ListN.{length-map}
use Rattle.std.proofs.lemmas.List.{take_more, map-append}
use Rattle.gf.specs.declared.gf2.Gf2.{Gf2}
use Rattle.gf.specs.Bits.{Bits, bits, number, plus}
use Rattle.gf.specs.Fields.{gf2}
use Rattle.gf.specs.laws.Numbers.{number_lt, number-bits}
use Rattle.block.specs.Checks.{binary, meanings}

pub binary-snoc : (n : ℕ) (p : List (Bits 1)) (b : Bits 1) → binary n (p ++ (b ∷ [])) ≡ binary n p * 2 + number 1 b
binary-snoc n [] b = refl
binary-snoc n (a ∷ p) b = binary-snoc (n * 2 + number 1 a) p b

pub binary-lt : (n k : ℕ) (p : List (Bits 1)) → n < 2 ^ k → binary n p < 2 ^ (k + length p)
binary-lt n k [] h = subst (λ (m : ℕ). n < 2 ^ m) (sym (add-zero k)) h
binary-lt n k (a ∷ p) h =
    subst (λ (m : ℕ). binary (n * 2 + number 1 a) p < 2 ^ m) (omega arith)
    (binary-lt (n * 2 + number 1 a) (suc k) p (omega (arith, pow-suc 2 k, number_lt 1 a)))

flip-bit : (b : Bits 1) → number 1 (gf2.add gf2.one b) + number 1 b ≡ 1
unfolding bits number plus
flip-bit (true, u) = refl
flip-bit (false, u) = refl

-- a row of bits and its complement add up to ones
pub binary-flip : (m n : ℕ) (p : List (Bits 1)) → binary m (map (gf2.add gf2.one) p) + binary n p + 1 ≡ (m + n + 1) * 2 ^ length p
binary-flip m n [] = sym (mul-one (m + n + 1))
binary-flip m n (b ∷ p) =
    binary-flip (m * 2 + number 1 (gf2.add gf2.one b)) (n * 2 + number 1 b) p
    ∙ ap (λ (s : ℕ). s * 2 ^ length p) doubled ∙ mul_assoc (m + n + 1) 2 (2 ^ length p)
    ∙ ap (λ (s : ℕ). (m + n + 1) * s) (twice (length p))
  where
    doubled : m * 2 + number 1 (gf2.add gf2.one b) + (n * 2 + number 1 b) + 1 ≡ (m + n + 1) * 2
    doubled = omega (arith, flip-bit b)

    twice : (k : ℕ) → 2 * 2 ^ k ≡ 2 ^ suc k
    twice k = omega (arith, pow-suc 2 k)

-- fewer than sixteen bits leave room for one more
pub word_fits : (symbols : List Gf2) (i : ℕ) → i < 16 → binary 0 (meanings (take i symbols)) * 2 + 1 < 65536
word_fits symbols i h =
    let p = meanings (take i symbols) in
    let short : length p ≤ 15 = omega (arith, length-map (take i symbols) (λ (s : Gf2). bits 1 s.0), length-take i symbols) in
    let low : binary 0 p < 2 ^ (0 + length p) = binary-lt 0 0 p (lit< tt) in
    let room : 0 + length p ≤ 15 = omega arith in
    let high : 2 ^ (0 + length p) ≤ 2 ^ 15 = pow_mono room in
    omega arith

-- one symbol more
pub symbol_more : (symbols : List Gf2) (i word bit : ℕ) → i < length symbols → word ≡ binary 0 (meanings (take i symbols))
    → bit ≡ (get_or symbols i (record { 0 = 0 })).0 % 2 → word * 2 + bit ≡ binary 0 (meanings (take (i + 1) symbols))
symbol_more symbols i word bit h w b =
    ap₂ (λ (m n : ℕ). m * 2 + n) w (b ∙ sym (number-bits 1 symbol.0))
    ∙ sym (binary-snoc 0 (meanings (take i symbols)) (bits 1 symbol.0))
    ∙ ap (binary 0) (sym (ap meanings (take_more symbols i (record { 0 = 0 }) h) ∙ map-append (λ (s : Gf2). bits 1 s.0) (take i symbols) (symbol ∷ [])))
  where
    symbol : Gf2
    symbol = get_or symbols i (record { 0 = 0 })

-- the complement of sixteen bits
pub complement : (p : List (Bits 1)) → length p ≡ 16 → 65535 - binary 0 p ≡ binary 0 (map (gf2.add gf2.one) p)
complement p e =
    let s : binary 0 (map (gf2.add gf2.one) p) + binary 0 p + 1 ≡ 65536 = binary-flip 0 0 p ∙ ap (λ (n : ℕ). 1 * 2 ^ n) e in
    omega arith
