-- What filling and correcting do to symbols, told of what the symbols are stored as.
use Rattle.std.proofs.Common.{◌≡◌, ℕ, suc, ◌-◌, ◌*◌, ◌<◌, ◌≤◌, Bool, true, false, cond, List, [], ◌∷◌, map, length, get_or, take, drop, sym, refl, ap, ◌∙◌, subst, ap₂, ⊎_elim, arith}
use lib.ListN.{length-map}
use mathlib.Core.List.{map-map}
use Rattle.std.proofs.lemmas.Bool.{cases_lt}
use Rattle.std.proofs.lemmas.List.{get_or-map, get_or_past, take-map, same_lists}
use Rattle.gf.specs.Theory.{Operations, Laws}
use Rattle.codes.specs.Codewords.{Codeword, checks_of, distance, Filled, Corrected, Beyond}

-- symbols of S mean what the T mean that they are stored as
module _ {E S T : Type 0} (f : Operations E) (mean : T → E) (out : S → T) (r : ℕ) (before after : List S) where
  stored_long : length after ≡ length before → length (map out after) ≡ length (map out before)
  stored_long e = length-map after out ∙ e ∙ sym (length-map before out)

  take-stored : (w : List S) → take (length (map out before) - r) (map out w) ≡ map out (take (length before - r) w)
  take-stored w = ap (λ (n : ℕ). take (n - r) (map out w)) (length-map before out) ∙ take-map out (length before - r) w

  pub stored_filled : Filled f (λ s. mean (out s)) r before after → Filled f mean r (map out before) (map out after)
  stored_filled w = record {
    long = stored_long w.long;
    data_kept = take-stored after ∙ ap (map out) w.data_kept ∙ sym (take-stored before);
    checks =
        ap₂ (λ (n : ℕ) v. drop (n - r) v) (length-map before out) (map-map mean out after) ∙ w.checks
        ∙ sym (ap₂ (λ (n : ℕ) v. checks_of f r (take (n - r) v)) (length-map before out) (map-map mean out before));
    codeword = subst (Codeword f r) (sym (map-map mean out after)) w.codeword;
    only = λ other e c t. w.only other (e ∙ length-map before out) c (same other t) ∙ sym (map-map mean out after);
  }
    where
      same : (other : List E) → take (length (map out before) - r) other ≡ take (length (map out before) - r) (map mean (map out before))
          → take (length before - r) other ≡ take (length before - r) (map (λ s. mean (out s)) before)
      same other t =
          subst (λ (n : ℕ). take (n - r) other ≡ take (n - r) (map (λ s. mean (out s)) before)) (length-map before out)
          (t ∙ ap (take (length (map out before) - r)) (map-map mean out before))

  far : (other : List E) → r < distance f (map (λ s. mean (out s)) before) other * 2 → r < distance f (map mean (map out before)) other * 2
  far other h = subst (λ v. r < distance f v other * 2) (sym (map-map mean out before)) h

  pub stored_beyond : Beyond f (λ s. mean (out s)) r before after → Beyond f mean r (map out before) (map out after)
  stored_beyond w = record {
    none = λ other e c. far other (w.none other (e ∙ length-map before out) c);
    same = ap (map out) w.same;
  }

  pub stored_corrected : (count : ℕ) → S → Corrected f (λ s. mean (out s)) r before after count
      → Corrected f mean r (map out before) (map out after) count
  stored_corrected count d w = record {
    long = stored_long w.long;
    codeword = subst (Codeword f r) (sym (map-map mean out after)) w.codeword;
    counted = w.counted ∙ sym (ap₂ (distance f) (map-map mean out before) (map-map mean out after));
    few = w.few;
    kept = kept;
    only = λ other e c ne. far other (w.only other (e ∙ length-map before out) c (λ e. ne (e ∙ sym (map-map mean out after))));
  }
    where
      kept : (j : ℕ) (t : T) → mean (get_or (map out before) j t) ≡ mean (get_or (map out after) j t)
          → get_or (map out before) j t ≡ get_or (map out after) j t
      kept j t e =
          ⊎_elim
          (λ (h : j < length before).
          let b = get_or-map out before j d t h in
          let a = get_or-map out after j d t (omega (arith, w.long)) in
          b ∙ ap out (w.kept j d (ap mean (sym b) ∙ e ∙ ap mean a)) ∙ sym a)
          (λ (h : length before ≤ j).
          get_or_past (map out before) j t (omega (arith, length-map before out))
          ∙ sym (get_or_past (map out after) j t (omega (arith, length-map after out, w.long))))
          (cases_lt j (length before))

module _ {E : Type 0} {f : Operations E} (l : Laws f) where
  -- words that differ nowhere are equal
  distance_none : (u v : List E) → length u ≡ length v → distance f u v ≡ 0 → u ≡ v
  distance_none [] [] e z = refl
  distance_none [] (b ∷ v) e z = absurd (omega arith)
  distance_none (a ∷ u) [] e z = absurd (omega arith)
  distance_none (a ∷ u) (b ∷ v) e z = by (f.equal a b) (l.equal_no a b) (distance_none u v (omega arith)) z
    where
      by : (t : Bool) → (t ≡ true → a ≡ b) → (distance f u v ≡ 0 → u ≡ v) → cond t (distance f u v) (suc (distance f u v)) ≡ 0
          → a ∷ u ≡ b ∷ v
      by true q rest z = ap₂ ◌∷◌ (q refl) (rest z)
      by false q rest z = absurd (omega arith)

  -- a correction that changes no element leaves the very same symbols
  pub corrected_none : {S : Type 0} (mean : S → E) (r : ℕ) (before after : List S) (count : ℕ) → count ≡ 0
      → Corrected f mean r before after count → after ≡ before
  corrected_none mean r before after count none w = sym (same_lists before after (sym w.long) at)
    where
      same : map mean before ≡ map mean after
      same =
          distance_none (map mean before) (map mean after) (length-map before mean ∙ sym w.long ∙ sym (length-map after mean))
          (sym w.counted ∙ none)

      at : (k : ℕ) (d : _) → k < length before → get_or before k d ≡ get_or after k d
      at k d h =
          w.kept k d (sym (get_or-map mean before k d (mean d) h) ∙ ap (λ v. get_or v k (mean d)) same
          ∙ get_or-map mean after k d (mean d) (omega (arith, w.long)))
