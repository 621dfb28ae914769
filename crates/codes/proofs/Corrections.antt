-- Errors taken off syndromes and off a word, one after another.
use Rattle.std.proofs.Common.{◌≡◌, ℕ, zero, suc, ◌+◌, ◌<◌, Bool, true, false, cond, List, [], ◌∷◌, map, length, get_or, take, set, sym, refl, ap, ◌∙◌, subst, ap₂, inl, inr, ⊎_elim, add-one, arith, length-set, get_or-set_other, get_or-set_same}
use lib.Seq.{set-get_or, map-set}
use Rattle.std.proofs.lemmas.List.{get_or-map}
use Rattle.std.proofs.lemmas.Bool.{cases_eq}
use Rattle.gf.specs.Theory.{Operations, Laws, pow}
use Rattle.codes.specs.Codewords.{Fresh, Apart, power_sum}
use Rattle.codes.specs.steps.Decoding.{Among, symbol, taken_off, weight, Rest, CorrectedPlaces}
use Rattle.codes.proofs.Ring.{O, ◌⊕◌, ⊝◌, ◌≐◌, ring₁, ring₂, ring₃}
use Rattle.codes.proofs.TakenOff.{count_swap, symbol-taken_off}
use Rattle.codes.proofs.PowerSums.{unequal}

module _ {A : Type 0} where
  -- what stands at a place is among them
  pub among_at : (xs : List A) (k : ℕ) (d : A) → k < length xs → Among (get_or xs k d) xs
  among_at [] k d h = absurd (omega arith)
  among_at (x ∷ xs) zero d h = inl refl
  among_at (x ∷ xs) (suc k) d h = inr (among_at xs k d (omega arith))

  -- it is none of those before
  fresh_at : (xs : List A) (k : ℕ) (d : A) → k < length xs → Apart xs → Fresh (get_or xs k d) (take k xs)
  fresh_at [] k d h a = absurd (omega arith)
  fresh_at (x ∷ xs) zero d h a = tt
  fresh_at (x ∷ xs) (suc k) d h a = ((λ e. other x xs k (omega arith) a.0 (sym e)), fresh_at xs k d (omega arith) a.1)
    where
      other : (x : A) (xs : List A) (k : ℕ) → k < length xs → Fresh x xs → x ≡ get_or xs k d → ⊥
      other x [] k h n e = absurd (omega arith)
      other x (y ∷ xs) zero h n e = n.0 e
      other x (y ∷ xs) (suc k) h n e = other x xs k (omega arith) n.1 e

module _ {E : Type 0} {f : Operations E} (l : Laws f) where
  -- one coefficient more
  power_sum_next : (ys xs : List E) (k i : ℕ) → k < length ys → k < length xs
      → power_sum f (take (suc k) ys) (take (suc k) xs) i
      ≡ f.add (power_sum f (take k ys) (take k xs) i) (f.mul (get_or ys k f.zero) (pow f (get_or xs k f.zero) i))
  power_sum_next [] xs k i h b = absurd (omega arith)
  power_sum_next (y ∷ ys) [] k i h b = absurd (omega arith)
  power_sum_next (y ∷ ys) (x ∷ xs) zero i h b = l.add_comm (f.mul y (pow f x i)) f.zero
  power_sum_next (y ∷ ys) (x ∷ xs) (suc k) i h b =
      ap (f.add (f.mul y (pow f x i))) (power_sum_next ys xs k i (omega arith) (omega arith))
      ∙ sym (l.add_assoc (f.mul y (pow f x i)) (power_sum f (take k ys) (take k xs) i) (f.mul (get_or ys k f.zero) (pow f (get_or xs k f.zero) i)))

  -- one error more is off
  pub rest_more : (n : ℕ) (ys xs : List E) (k : ℕ) (s u v : ℕ → E) → k < length ys → k < length xs
      → Rest f n (take k ys) (take k xs) s u
      → ((i : ℕ) → i < n → v i ≡ f.add (u i) (f.neg (f.mul (get_or ys k f.zero) (pow f (get_or xs k f.zero) i))))
      → Rest f n (take (k + 1) ys) (take (k + 1) xs) s v
  rest_more n ys xs k s u v hy hx so e i h =
      let term = f.mul (get_or ys k f.zero) (pow f (get_or xs k f.zero) i) in
      let sum = power_sum f (take k ys) (take k xs) i in
      e i h ∙ ap (λ a. f.add a (f.neg term)) (so i h)
      ∙ ring₃ l (λ s p t. s ⊕ ⊝ p ⊕ ⊝ t ≐ s ⊕ ⊝ (p ⊕ t)) tt (s i) sum term
      ∙ ap (λ a. f.add (s i) (f.neg a)) (sym (power_sum_next ys xs k i hy hx)
      ∙ ap (λ (m : ℕ). power_sum f (take m ys) (take m xs) i) (sym (add-one k)))

  -- one error more off a word

  taken_off_next : (w : List E) (ps : List ℕ) (ys : List E) (k : ℕ) → k < length ps → k < length ys
      → taken_off f w (take (suc k) ps) (take (suc k) ys)
      ≡ set (taken_off f w (take k ps) (take k ys)) (get_or ps k 0)
      (f.add (symbol f (taken_off f w (take k ps) (take k ys)) (get_or ps k 0)) (f.neg (get_or ys k f.zero)))
  taken_off_next w [] ys k h b = absurd (omega arith)
  taken_off_next w (p ∷ ps) [] k h b = absurd (omega arith)
  taken_off_next w (p ∷ ps) (y ∷ ys) zero h b = refl
  taken_off_next w (p ∷ ps) (y ∷ ys) (suc k) h b =
      taken_off_next (set w p (f.add (symbol f w p) (f.neg y))) ps ys k (omega arith) (omega arith)

  weight-next : (ys : List E) (k : ℕ) → k < length ys
      → weight f (take (suc k) ys) ≡ cond (f.equal (get_or ys k f.zero) f.zero) (weight f (take k ys)) (suc (weight f (take k ys)))
  weight-next [] k h = absurd (omega arith)
  weight-next (y ∷ ys) zero h = refl
  weight-next (y ∷ ys) (suc k) h =
      ap (λ (n : ℕ). cond (f.equal y f.zero) n (suc n)) (weight-next ys k (omega arith))
      ∙ count_swap (f.equal y f.zero) (f.equal (get_or ys k f.zero) f.zero) (weight f (take k ys))

  module _ {S : Type 0} (mean : S → E) where
    module _ (ps : List ℕ) (ys : List E) (k : ℕ) (before now : List S) (changed : ℕ) (here : k < length ps) (there : k < length ys)
        (apart : Apart ps) (inside : (j : ℕ) → Among j ps → j < length before)
        (so : CorrectedPlaces f mean (take k ps) (take k ys) before now changed) where
      p : ℕ
      p = get_or ps k 0

      y : E
      y = get_or ys k f.zero

      done : List E
      done = taken_off f (map mean before) (take k ps) (take k ys)

      in_before : p < length before
      unfolding p
      in_before = inside (get_or ps k 0) (among_at ps k 0 here)

      in_now : p < length now
      in_now = omega (arith, in_before, so.long)

      next : taken_off f (map mean before) (take (k + 1) ps) (take (k + 1) ys) ≡ set done p (f.add (symbol f done p) (f.neg y))
      unfolding p y done
      next = ap (λ (n : ℕ). taken_off f (map mean before) (take n ps) (take n ys)) (add-one k) ∙ taken_off_next (map mean before) ps ys k here there

      weighed : (b : Bool) → f.equal y f.zero ≡ b → weight f (take (k + 1) ys) ≡ cond b (weight f (take k ys)) (suc (weight f (take k ys)))
      unfolding y
      weighed b e =
          ap (λ (n : ℕ). weight f (take n ys)) (add-one k) ∙ weight-next ys k there
          ∙ ap (λ b. cond b (weight f (take k ys)) (suc (weight f (take k ys)))) e

      -- an error of zero changes nothing
      pub place-right : f.equal (get_or ys k f.zero) f.zero ≡ true → CorrectedPlaces f mean (take (k + 1) ps) (take (k + 1) ys) before now changed
      unfolding p y done
      place-right z = record {
        long = so.long;
        elements =
            so.elements ∙ sym (next ∙ ap (λ b. set done p (f.add (symbol f done p) (f.neg b))) (l.equal_no y f.zero z)
            ∙ ap (set done p) (ring₁ l (λ a. a ⊕ ⊝ O ≐ a) tt (symbol f done p)) ∙ set-get_or done p f.zero);
        counted = so.counted ∙ sym (weighed true z);
        kept = so.kept;
      }

      -- an error that is not zero is taken off
      pub place_wrong : (x : S) → mean x ≡ f.add (symbol f (map mean now) (get_or ps k 0)) (f.neg (get_or ys k f.zero))
          → f.equal (get_or ys k f.zero) f.zero ≡ false
          → CorrectedPlaces f mean (take (k + 1) ps) (take (k + 1) ys) before (set now (get_or ps k 0) x) (changed + 1)
      unfolding p y done
      place_wrong x e z = record {
        long = length-set now p x ∙ so.long;
        elements =
            map-set mean now p x
            ∙ ap₂ (λ xs a. set xs p a) so.elements (e ∙ ap (λ xs. f.add (symbol f xs p) (f.neg y)) so.elements) ∙ sym next;
        counted = add-one changed ∙ ap suc so.counted ∙ sym (weighed false z);
        kept = λ j s q. ⊎_elim (λ (i : j ≡ p). absurd (changes s (subst (λ (n : ℕ). mean (get_or before n s) ≡ mean (get_or (set now p x) n s)) i q)))
            (λ (d : j ≡ p → ⊥).
            let o = get_or-set_other now p j x s d in so.kept j s (q ∙ ap mean o) ∙ sym o)
            (cases_eq j p);
      }
        where
          changes : (s : S) → mean (get_or before p s) ≡ mean (get_or (set now p x) p s) → ⊥
          changes s q =
              unequal l y f.zero z
              (ring₂ l (λ a y. y ≐ a ⊕ ⊝ (a ⊕ ⊝ y)) tt (mean (get_or before p s)) y
              ∙ ap (λ a. f.add (mean (get_or before p s)) (f.neg a)) (sym was)
              ∙ l.add-neg (mean (get_or before p s)))
            where
              was : mean (get_or before p s) ≡ f.add (mean (get_or before p s)) (f.neg y)
              was =
                  q ∙ ap mean (get_or-set_same now p x s in_now) ∙ e
                  ∙ ap (λ a. f.add a (f.neg y)) (ap (λ xs. symbol f xs p) so.elements
                  ∙ symbol-taken_off f (map mean before) (take k ps) (take k ys) p (fresh_at ps k 0 here apart)
                  ∙ get_or-map mean before p s f.zero in_before)
