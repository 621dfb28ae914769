-- Sums place by place and products of lists, as lists.
use Rattle.std.proofs.Common.{◌≡◌, ℕ, zero, suc, ◌+◌, ◌≤◌, List, [], ◌∷◌, ◌++◌, length, sym, refl, ap, ◌∙◌, ap₂, suc-add, zero-add, arith}
use mathlib.Core.List.{tail}
use lib.ListN.{length-map, length-replicate}
use Rattle.gf.specs.Theory.{Operations, Laws}
use Rattle.codes.specs.Polynomials.{zeros, scale, negs, over, times}
use Rattle.codes.proofs.Elements as elements

pub cons : {A : Type 0} {a b : A} {p q : List A} → a ≡ b → p ≡ q → a ∷ p ≡ b ∷ q
cons e h = ap₂ (λ a p. a ∷ p) e h

module _ {E : Type 0} (f : Operations E) where
  over-nil : (p : List E) → over f p [] ≡ p
  over-nil [] = refl
  over-nil (a ∷ p) = refl

  pub length_over : (p q : List E) → length p ≤ length q → length (over f p q) ≡ length q
  length_over [] q h = refl
  length_over (a ∷ p) [] h = omega arith
  length_over (a ∷ p) (b ∷ q) h = ap suc (length_over p q (omega arith))

  -- a multiple and its negative are as long
  pub length-multiple : (c : E) (d : List E) → length (negs f (scale f c d)) ≡ length d
  length-multiple c d = length-map (scale f c d) f.neg ∙ length-map d (f.mul c)

  pub length-times : (p : List E) (b : E) (q : List E) → length (times f p (b ∷ q)) ≡ length p + length q
  length-times [] b q = length-replicate (length q) f.zero ∙ sym (zero-add (length q))
  length-times (a ∷ p) b q =
      ap suc (length_over (scale f a q) (times f p (b ∷ q)) (omega (arith, length-times p b q, length-map q (f.mul a))))
      ∙ omega (arith, length-times p b q)

  -- what stands behind a sum that is long enough stays
  pub over_front : (p q r : List E) → length q ≤ length p → over f (p ++ r) q ≡ over f p q ++ r
  over_front [] [] r h = over-nil r
  over_front [] (b ∷ q) r h = absurd (omega arith)
  over_front (a ∷ p) [] r h = refl
  over_front (a ∷ p) (b ∷ q) r h = cons refl (over_front p q r (omega arith))

module _ {E : Type 0} {f : Operations E} (l : Laws f) where
  pub over_comm : (p q : List E) → over f p q ≡ over f q p
  over_comm [] q = sym (over-nil f q)
  over_comm (a ∷ p) [] = refl
  over_comm (a ∷ p) (b ∷ q) = cons (l.add_comm a b) (over_comm p q)

  pub over_assoc : (p q r : List E) → over f (over f p q) r ≡ over f p (over f q r)
  over_assoc [] q r = refl
  over_assoc (a ∷ p) [] r = refl
  over_assoc (a ∷ p) (b ∷ q) [] = refl
  over_assoc (a ∷ p) (b ∷ q) (c ∷ r) = cons (l.add_assoc a b c) (over_assoc p q r)

  pub over_zeros : (n : ℕ) (p : List E) → n ≤ length p → over f (zeros f n) p ≡ p
  over_zeros zero p h = refl
  over_zeros (suc n) [] h = absurd (omega arith)
  over_zeros (suc n) (a ∷ p) h = cons (elements.zero-add l a) (over_zeros n p (omega arith))

  pub scale-zero : (p : List E) → scale f f.zero p ≡ zeros f (length p)
  scale-zero [] = refl
  scale-zero (a ∷ p) = cons (elements.zero-mul l a) (scale-zero p)

  pub negs-zeros : (n : ℕ) → negs f (zeros f n) ≡ zeros f n
  negs-zeros zero = refl
  negs-zeros (suc n) = cons (elements.neg-zero l) (negs-zeros n)

  over-negs : (p : List E) → over f p (negs f p) ≡ zeros f (length p)
  over-negs [] = refl
  over-negs (a ∷ p) = cons (l.add-neg a) (over-negs p)

  -- p + (w - p) = w
  pub add_back : (p w : List E) → length p ≤ length w → over f p (over f w (negs f p)) ≡ w
  add_back p w h =
      ap (over f p) (over_comm w (negs f p)) ∙ sym (over_assoc p (negs f p) w)
      ∙ ap (λ z. over f z w) (over-negs p) ∙ over_zeros (length p) w h

  -- (p + w) - p = w
  pub take_back : (p w : List E) → length p ≤ length w → over f (over f p w) (negs f p) ≡ w
  take_back p w h =
      over_comm (over f p w) (negs f p) ∙ sym (over_assoc (negs f p) p w)
      ∙ ap (λ z. over f z w) (over_comm (negs f p) p ∙ over-negs p) ∙ over_zeros (length p) w h

  -- (p + q) + (r + s) = (p + r) + (q + s)
  pub over_swap : (p q r s : List E) → over f (over f p q) (over f r s) ≡ over f (over f p r) (over f q s)
  over_swap p q r s =
      over_assoc p q (over f r s)
      ∙ ap (over f p) (sym (over_assoc q r s) ∙ ap (λ z. over f z s) (over_comm q r) ∙ over_assoc r q s)
      ∙ sym (over_assoc p r (over f q s))

  -- the multiple by a sum is the sum of the multiples
  pub multiple-add : (a b : E) (d : List E) → negs f (scale f (f.add a b) d) ≡ over f (negs f (scale f a d)) (negs f (scale f b d))
  multiple-add a b [] = refl
  multiple-add a b (c ∷ d) =
      cons (ap f.neg (elements.add-mul l a b c) ∙ elements.neg-add l (f.mul a c) (f.mul b c)) (multiple-add a b d)

  -- lists that begin alike long are added part by part
  pub over-append : (p q r s : List E) → length p ≡ length q → over f (p ++ r) (q ++ s) ≡ over f p q ++ over f r s
  over-append [] [] r s e = refl
  over-append [] (b ∷ q) r s e = absurd (omega arith)
  over-append (a ∷ p) [] r s e = absurd (omega arith)
  over-append (a ∷ p) (b ∷ q) r s e = cons refl (over-append p q r s (omega arith))

  -- products

  scale-over : (c : E) (p q : List E) → scale f c (over f p q) ≡ over f (scale f c p) (scale f c q)
  scale-over c [] q = refl
  scale-over c (a ∷ p) [] = refl
  scale-over c (a ∷ p) (b ∷ q) = cons (l.mul-add c a b) (scale-over c p q)

  scale-scale : (c d : E) (p : List E) → scale f c (scale f d p) ≡ scale f (f.mul c d) p
  scale-scale c d [] = refl
  scale-scale c d (a ∷ p) = cons (sym (l.mul_assoc c d a)) (scale-scale c d p)

  scale-add : (c d : E) (p : List E) → scale f (f.add c d) p ≡ over f (scale f c p) (scale f d p)
  scale-add c d [] = refl
  scale-add c d (a ∷ p) = cons (elements.add-mul l c d a) (scale-add c d p)

  scale-zeros : (c : E) (n : ℕ) → scale f c (zeros f n) ≡ zeros f n
  scale-zeros c zero = refl
  scale-zeros c (suc n) = cons (elements.mul-zero l c) (scale-zeros c n)

  times-scale : (c : E) (p q : List E) → times f (scale f c p) q ≡ scale f c (times f p q)
  times-scale c [] q = sym (scale-zeros c (length (tail q)))
  times-scale c (a ∷ p) q =
      ap₂ (over f) (sym (scale-scale c a q)) (cons (sym (elements.mul-zero l c)) (times-scale c p q))
      ∙ sym (scale-over c (scale f a q) (f.zero ∷ times f p q))

  times_zero : (p : List E) (b : E) (q : List E) → times f (f.zero ∷ p) (b ∷ q) ≡ f.zero ∷ times f p (b ∷ q)
  times_zero p b q =
      ap (λ z. over f z (f.zero ∷ times f p (b ∷ q))) (scale-zero (b ∷ q))
      ∙ over_zeros (suc (length q)) (f.zero ∷ times f p (b ∷ q)) (omega (arith, length-times f p b q))

  pub times-zeros : (n : ℕ) (b : E) (q : List E) → times f (zeros f n) (b ∷ q) ≡ zeros f (n + length q)
  times-zeros zero b q = ap (zeros f) (sym (zero-add (length q)))
  times-zeros (suc n) b q =
      times_zero (zeros f n) b q ∙ ap (λ z. f.zero ∷ z) (times-zeros n b q) ∙ ap (zeros f) (sym (suc-add n (length q)))

  times-over : (p r : List E) (b : E) (q : List E) → times f (over f p r) (b ∷ q) ≡ over f (times f p (b ∷ q)) (times f r (b ∷ q))
  times-over [] r b q = sym (over_zeros (length q) (times f r (b ∷ q)) (omega (arith, length-times f r b q)))
  times-over (a ∷ p) [] b q =
      sym (over_comm (times f (a ∷ p) (b ∷ q)) (zeros f (length q))
      ∙ over_zeros (length q) (times f (a ∷ p) (b ∷ q)) (omega (arith, length-times f (a ∷ p) b q)))
  times-over (a ∷ p) (c ∷ r) b q =
      ap₂ (over f) (scale-add a c (b ∷ q)) (cons (sym (l.add-zero f.zero)) (times-over p r b q))
      ∙ over_swap (scale f a (b ∷ q)) (scale f c (b ∷ q)) (f.zero ∷ times f p (b ∷ q)) (f.zero ∷ times f r (b ∷ q))

  pub times_assoc : (p : List E) (b : E) (q : List E) (c : E) (r : List E)
      → times f (times f p (b ∷ q)) (c ∷ r) ≡ times f p (times f (b ∷ q) (c ∷ r))
  times_assoc [] b q c r =
      times-zeros (length q) c r
      ∙ ap (zeros f) (sym (length_over f (scale f b r) (times f q (c ∷ r)) (omega (arith, length-map r (f.mul b), length-times f q c r)) ∙ length-times f q c r))
  times_assoc (a ∷ p) b q c r =
      times-over (scale f a (b ∷ q)) (f.zero ∷ times f p (b ∷ q)) c r
      ∙ ap₂ (over f) (times-scale a (b ∷ q) (c ∷ r)) (times_zero (times f p (b ∷ q)) c r ∙ ap (λ z. f.zero ∷ z) (times_assoc p b q c r))

  -- the product with one
  pub times-one : (p : List E) → times f p (f.one ∷ []) ≡ p
  times-one [] = refl
  times-one (a ∷ p) = cons (l.add-zero (f.mul a f.one) ∙ l.mul-one a) (times-one p)
