-- A word with errors taken off at different places: its syndromes, and at how many places it is changed.
use Rattle.std.proofs.Common.{◌≡◌, ℕ, zero, suc, ◌-◌, ◌<◌, Bool, true, false, cond, List, [], ◌∷◌, map, length, set, sym, refl, ap, ◌∙◌, subst, ap₂, inl, inr, arith, length-set, get_or-set_other, get_or-set_same}
use Rattle.gf.specs.Theory.{Operations, Laws, pow}
use Rattle.codes.specs.Codewords.{Fresh, Apart, syndrome, distance, power_sum}
use Rattle.codes.specs.steps.Decoding.{Among, symbol, point, taken_off, weight}
use Rattle.codes.proofs.Elements.{equal_agree}
use Rattle.codes.proofs.Ring.{O, ◌⊕◌, ◌⊗◌, ⊝◌, ◌≐◌, ring₁, ring₂, ring₄}
use Rattle.codes.proofs.Values.{pow-pow, value_set}

-- a count at one place before a count at another
pub count_swap : (b c : Bool) (n : ℕ) → cond b (cond c n (suc n)) (suc (cond c n (suc n))) ≡ cond c (cond b n (suc n)) (suc (cond b n (suc n)))
count_swap true true n = refl
count_swap true false n = refl
count_swap false true n = refl
count_swap false false n = refl

module _ {E : Type 0} (f : Operations E) where
  pub length-taken_off : (w : List E) (places : List ℕ) (ys : List E) → length (taken_off f w places ys) ≡ length w
  length-taken_off w [] ys = refl
  length-taken_off w (k ∷ ks) [] = refl
  length-taken_off w (k ∷ ks) (y ∷ ys) =
      length-taken_off (set w k (f.add (symbol f w k) (f.neg y))) ks ys ∙ length-set w k (f.add (symbol f w k) (f.neg y))

  -- at every other place the word stays
  pub symbol-taken_off : (w : List E) (places : List ℕ) (ys : List E) (k : ℕ) → Fresh k places → symbol f (taken_off f w places ys) k ≡ symbol f w k
  symbol-taken_off w [] ys k n = refl
  symbol-taken_off w (p ∷ ps) [] k n = refl
  symbol-taken_off w (p ∷ ps) (y ∷ ys) k n =
      symbol-taken_off (set w p (f.add (symbol f w p) (f.neg y))) ps ys k n.1
      ∙ get_or-set_other w p k (f.add (symbol f w p) (f.neg y)) f.zero n.0

  -- the other places are still places of the word
  pub inside_set : (w : List E) (k : ℕ) (a : E) (ks : List ℕ) → ((j : ℕ) → Among j (k ∷ ks) → j < length w)
      → (j : ℕ) → Among j ks → j < length (set w k a)
  inside_set w k a ks b j m = subst (λ (n : ℕ). j < n) (sym (length-set w k a)) (b j (inr m))

module _ {E : Type 0} {f : Operations E} (l : Laws f) where
  pub syndrome-taken_off : (w : List E) (places : List ℕ) (ys : List E) (i : ℕ) → length ys ≡ length places
      → ((k : ℕ) → Among k places → k < length w)
      → syndrome f (taken_off f w places ys) i ≡ f.add (syndrome f w i) (f.neg (power_sum f ys (map (point f (length w)) places) i))
  syndrome-taken_off w [] [] i e b = ring₁ l (λ v. v ≐ v ⊕ ⊝ O) tt (syndrome f w i)
  syndrome-taken_off w [] (y ∷ ys) i e b = absurd (omega arith)
  syndrome-taken_off w (k ∷ ks) [] i e b = absurd (omega arith)
  syndrome-taken_off w (k ∷ ks) (y ∷ ys) i e b =
      syndrome-taken_off (set w k a) ks ys i (omega arith) (inside_set f w k a ks b)
      ∙ ap₂ (λ v (n : ℕ). f.add v (f.neg (power_sum f ys (map (point f n) ks) i)))
      (value_set l (pow f f.root i) w k y (b k (inl refl))
      ∙ ap (λ x. f.add (syndrome f w i) (f.neg (f.mul y x))) (pow-pow l f.root i (length w - 1 - k)))
      (length-set w k a)
      ∙ ring₄ l (λ v y x s. (v ⊕ ⊝ (y ⊗ x)) ⊕ ⊝ s ≐ v ⊕ ⊝ (y ⊗ x ⊕ s)) tt
      (syndrome f w i) y (pow f (point f (length w) k) i) (power_sum f ys (map (point f (length w)) ks) i)
    where
      a : E
      a = f.add (symbol f w k) (f.neg y)

  -- one place of the distance
  distance_at : (w v : List E) (k : ℕ) → length v ≡ length w → k < length w
      → distance f w v
      ≡ cond (f.equal (symbol f w k) (symbol f v k)) (distance f (set w k (symbol f v k)) v) (suc (distance f (set w k (symbol f v k)) v))
  distance_at [] v k e h = absurd (omega arith)
  distance_at (a ∷ w) [] k e h = absurd (omega arith)
  distance_at (a ∷ w) (b ∷ v) zero e h =
      ap (λ (n : ℕ). cond (f.equal a b) n (suc n)) (ap (λ c. cond c (distance f w v) (suc (distance f w v))) (sym (l.equal_yes b b refl)))
  distance_at (a ∷ w) (b ∷ v) (suc k) e h =
      ap (λ (n : ℕ). cond (f.equal a b) n (suc n)) (distance_at w v k (omega arith) (omega arith))
      ∙ count_swap (f.equal a b) (f.equal (symbol f w k) (symbol f v k)) (distance f (set w k (symbol f v k)) v)

  -- taking y off changes the symbol just where y is not zero
  same-less : (a y : E) → f.equal a (f.add a (f.neg y)) ≡ f.equal y f.zero
  same-less a y =
      equal_agree l a (f.add a (f.neg y)) y f.zero
      (λ e. ring₂ l (λ a y. y ≐ a ⊕ ⊝ (a ⊕ ⊝ y)) tt a y ∙ ap (λ z. f.add a (f.neg z)) (sym e) ∙ l.add-neg a)
      (λ e. ring₁ l (λ a. a ≐ a ⊕ ⊝ O) tt a ∙ ap (λ z. f.add a (f.neg z)) (sym e))

  pub distance-same : (w : List E) → distance f w w ≡ 0
  distance-same [] = refl
  distance-same (c ∷ w) = ap (λ t. cond t (distance f w w) (suc (distance f w w))) (l.equal_yes c c refl) ∙ distance-same w

  pub distance-taken_off : (w : List E) (places : List ℕ) (ys : List E) → length ys ≡ length places → Apart places
      → ((k : ℕ) → Among k places → k < length w) → distance f w (taken_off f w places ys) ≡ weight f ys
  distance-taken_off w [] [] e a b = distance-same w
  distance-taken_off w [] (y ∷ ys) e a b = absurd (omega arith)
  distance-taken_off w (k ∷ ks) [] e a b = absurd (omega arith)
  distance-taken_off w (k ∷ ks) (y ∷ ys) e a b =
      distance_at w v k (length-taken_off f u ks ys ∙ length-set w k c) (b k (inl refl))
      ∙ ap (λ x. cond (f.equal (symbol f w k) x) (distance f (set w k x) v) (suc (distance f (set w k x) v))) there
      ∙ ap₂ (λ t (n : ℕ). cond t n (suc n)) (same-less (symbol f w k) y)
      (distance-taken_off u ks ys (omega arith) a.1 (inside_set f w k c ks b))
    where
      c : E
      c = f.add (symbol f w k) (f.neg y)

      u : List E
      u = set w k c

      v : List E
      v = taken_off f u ks ys

      there : symbol f v k ≡ c
      there = symbol-taken_off f u ks ys k a.0 ∙ get_or-set_same w k c f.zero (b k (inl refl))
