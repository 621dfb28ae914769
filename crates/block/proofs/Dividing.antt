-- Bytes as polynomials, and what the register of a division over bits holds.
use Rattle.std.proofs.Common.{◌≡◌, ℕ, zero, suc, ◌+◌, ◌*◌, ◌≤◌, true, List, [], ◌∷◌, ◌++◌, length, get_or, take, drop, sym, refl, ap, ◌∙◌, subst, ap₂, append_assoc, append-nil, add-zero, mul-suc, arith, length-append, take-append-drop}
use lib.ListN.{length-replicate, replicate-append-replicate}
use Rattle.gf.specs.Bits.{Bits}
use Rattle.gf.specs.Fields.{gf2}
use Rattle.gf.specs.laws.FieldLaws.{laws2}
use Rattle.codes.specs.Polynomials.{zeros, over}
use Rattle.codes.specs.Division.{remainder_of, admitted}
use Rattle.codes.proofs.Lists.{cons, length_over, over_comm, over_zeros}
use Rattle.codes.proofs.LongDivision.{remainder_short}
use Rattle.codes.proofs.Registers.{ahead}
use Rattle.codes.proofs.Admission.{admitted_begins}
use Rattle.codes.proofs.Feeding.{fed, feed, plus_level}
use Rattle.block.specs.Checks.{byte_bits, polynomial, covered}

-- the place that is written next is still as it was
pub ahead_here : (new old : List (Bits 1)) (i : ℕ) → length new ≡ length old → i ≤ length old
    → get_or (take i new ++ drop i old) i gf2.zero ≡ get_or old i gf2.zero
ahead_here new old i e h =
    ap (λ (k : ℕ). get_or (take i new ++ drop i old) k gf2.zero) (sym (add-zero i)) ∙ ahead gf2.zero new old i 0 e h
    ∙ ap (λ (k : ℕ). get_or old k gf2.zero) (add-zero i)

-- the sum is written where the shorter list ends
pub sum-written : (p q : List (Bits 1)) (i : ℕ) → length q ≤ i → i ≤ length p → take i (over gf2 p q) ++ drop i p ≡ over gf2 p q
sum-written [] [] i h k = take-append-drop i []
sum-written (a ∷ p) [] i h k = take-append-drop i (a ∷ p)
sum-written [] (b ∷ q) i h k = absurd (omega arith)
sum-written (a ∷ p) (b ∷ q) zero h k = absurd (omega arith)
sum-written (a ∷ p) (b ∷ q) (suc i) h k = cons refl (sum-written p q i (omega arith) (omega arith))

pub length-sum : (p q : List (Bits 1)) → length q ≤ length p → length (over gf2 p q) ≡ length p
length-sum p q h = ap length (over_comm laws2 p q) ∙ length_over gf2 q p h

pub length-byte : (b : ℕ) → length (byte_bits b) ≡ 8
unfolding byte_bits
length-byte b = refl

length-polynomial : (bytes : List ℕ) → length (polynomial bytes) ≡ 8 * length bytes
length-polynomial [] = refl
length-polynomial (b ∷ bytes) =
    length-append (byte_bits b) (polynomial bytes) ∙ ap₂ ◌+◌ (length-byte b) (length-polynomial bytes)
    ∙ sym (mul-suc 8 (length bytes) ∙ omega arith)

polynomial-append : (bytes more : List ℕ) → polynomial (bytes ++ more) ≡ polynomial bytes ++ polynomial more
polynomial-append [] more = refl
polynomial-append (b ∷ bytes) more =
    ap (λ p. byte_bits b ++ p) (polynomial-append bytes more) ∙ sym (append_assoc (byte_bits b) (polynomial bytes) (polynomial more))

length_before : (p : List (Bits 1)) (n : ℕ) → length (p ++ zeros gf2 n) ≡ length p + n
length_before p n = length-append p (zeros gf2 n) ∙ ap (λ (k : ℕ). length p + k) (length-replicate n gf2.zero)

covered-fed : (start : List (Bits 1)) (bytes : List ℕ) → length start ≡ 16
    → covered start bytes ≡ fed laws2 16 start (polynomial bytes)
covered-fed start bytes sized =
    plus_level laws2 (polynomial bytes ++ zeros gf2 16) (start ++ zeros gf2 (8 * length bytes))
    (length_before (polynomial bytes) 16 ∙ ap (λ (k : ℕ). k + 16) (length-polynomial bytes)
    ∙ sym (length_before start (8 * length bytes) ∙ omega (arith, sized)))
    ∙ ap (λ (k : ℕ). over gf2 (polynomial bytes ++ zeros gf2 16) (start ++ zeros gf2 k)) (sym (length-polynomial bytes))

module _ (start generator : List (Bits 1)) (sized : length start ≡ 16) (ok : admitted gf2 generator 16 ≡ true) where
  -- before the first byte the register holds what it starts with
  pub covered_none : start ≡ remainder_of gf2 (covered start []) generator
  covered_none =
      sym (ap₂ (remainder_of gf2) (covered-fed start [] sized ∙ ap (over gf2 (zeros gf2 16)) (append-nil start)
      ∙ over_zeros laws2 16 start (omega (arith, sized))) b.1 ∙ remainder_short laws2 b.0 start (sized ∙ sym b.2))
    where
      b : (d : List (Bits 1)) × (generator ≡ gf2.one ∷ d) × (length d ≡ 16) × (1 ≤ 16)
      b = admitted_begins laws2 16 generator ok

  -- a byte more
  pub covered_next : (bytes : List ℕ) (byte : ℕ) (register : List (Bits 1)) → register ≡ remainder_of gf2 (covered start bytes) generator
      → remainder_of gf2 (over gf2 register (byte_bits byte) ++ zeros gf2 8) generator
      ≡ remainder_of gf2 (covered start (bytes ++ (byte ∷ []))) generator
  covered_next bytes byte register held =
      subst P (sym b.1)
      (λ held. ap₂ (λ r (n : ℕ). remainder_of gf2 (over gf2 r (byte_bits byte) ++ zeros gf2 n) g)
      (held ∙ ap (λ w. remainder_of gf2 w g) (covered-fed start bytes sized ∙ ap (λ (n : ℕ). fed laws2 n start (polynomial bytes)) (sym b.2)))
      (sym (length-byte byte))
      ∙ sym (ap (λ w. remainder_of gf2 w g)
      (covered-fed start (bytes ++ (byte ∷ [])) sized
      ∙ ap₂ (λ (n : ℕ) p. fed laws2 n start p) (sym b.2) (polynomial-append bytes (byte ∷ []) ∙ ap (λ p. polynomial bytes ++ p) (append-nil (byte_bits byte))))
      ∙ feed laws2 b.0 start (polynomial bytes) (byte_bits byte) (sized ∙ sym b.2) (omega (arith, length-byte byte, b.2)))) held
    where
      b : (d : List (Bits 1)) × (generator ≡ gf2.one ∷ d) × (length d ≡ 16) × (1 ≤ 16)
      b = admitted_begins laws2 16 generator ok

      g : List (Bits 1)
      g = gf2.one ∷ b.0

      P : List (Bits 1) → Type 0
      P h =
          register ≡ remainder_of gf2 (covered start bytes) h
          → remainder_of gf2 (over gf2 register (byte_bits byte) ++ zeros gf2 8) h
          ≡ remainder_of gf2 (covered start (bytes ++ (byte ∷ []))) h

-- sixteen zeros in front add nothing
pub covered-zeros : (bytes : List ℕ) → covered (zeros gf2 16) bytes ≡ polynomial bytes ++ zeros gf2 16
covered-zeros bytes =
    covered-fed (zeros gf2 16) bytes refl
    ∙ ap (over gf2 (polynomial bytes ++ zeros gf2 16)) (replicate-append-replicate 16 (length (polynomial bytes)) gf2.zero)
    ∙ over_comm laws2 (polynomial bytes ++ zeros gf2 16) (zeros gf2 (16 + length (polynomial bytes)))
    ∙ over_zeros laws2 (16 + length (polynomial bytes)) (polynomial bytes ++ zeros gf2 16) (omega (arith, length_before (polynomial bytes) 16))
