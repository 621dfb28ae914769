-- Bytes and the elements that they mean.
use Rattle.std.proofs.Common.{◌≡◌, ℕ, zero, suc, ◌%◌, ◌^◌, ◌<◌, List, [], ◌∷◌, map, length, get_or, sym, refl, ap, ◌∙◌, mod-eq_of_lt, arith}
use lib.ListN.{length-map}
use Rattle.std.proofs.lemmas.List.{ext_get_or, get_or-map, get_or_past}
use Rattle.gf.specs.Bits.{Bits, bits, number}
use Rattle.gf.specs.laws.Numbers.{bits-number, number_lt, number-bits}
use Rattle.codes.proofs.Lists.{cons}
use Rattle.interleaver.specs.Rows.{elements, AreBytes}

-- a byte is known by the element that it means
pub same_byte : (a b : ℕ) → a < 256 → b < 256 → bits 8 a ≡ bits 8 b → a ≡ b
same_byte a b h k e =
    let m : a % 2 ^ 8 ≡ b % 2 ^ 8 = sym (number-bits 8 a) ∙ ap (number 8) e ∙ number-bits 8 b in
    omega (arith, m)

pub same_bytes : (u v : List ℕ) → AreBytes u → AreBytes v → elements u ≡ elements v → u ≡ v
same_bytes u v h k e =
    let long : length u ≡ length v = sym (length-map u (bits 8)) ∙ ap length e ∙ length-map v (bits 8) in
    ext_get_or 0 u v long
    (λ i b. same_byte (get_or u i 0) (get_or v i 0) (h i) (k i)
    (sym (get_or-map (bits 8) u i 0 (bits 8 0) b) ∙ ap (λ w. get_or w i (bits 8 0)) e
    ∙ get_or-map (bits 8) v i 0 (bits 8 0) (omega (arith, long))))

pub number-elements : (bytes : List ℕ) → AreBytes bytes → map (number 8) (elements bytes) ≡ bytes
number-elements [] h = refl
number-elements (b ∷ bytes) h = cons (number-bits 8 b ∙ mod-eq_of_lt (h 0)) (number-elements bytes (λ k. h (suc k)))

pub elements-number : (word : List (Bits 8)) → elements (map (number 8) word) ≡ word
elements-number [] = refl
elements-number (u ∷ word) = cons (bits-number 8 u) (elements-number word)

pub bytes-number : (word : List (Bits 8)) → AreBytes (map (number 8) word)
bytes-number [] k = omega (arith, get_or_past {X = ℕ} [] k 0 (omega arith))
bytes-number (u ∷ word) zero = number_lt 8 u
bytes-number (u ∷ word) (suc k) = bytes-number word k
