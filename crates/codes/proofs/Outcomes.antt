-- From what the steps of a correction found to what it promises.
use Rattle.std.proofs.Common.{◌≡◌, ℕ, zero, suc, ◌*◌, ◌/◌, ◌<◌, ◌≤◌, true, ◌&&◌, List, [], ◌∷◌, map, length, get_or, sym, refl, ap, ◌∙◌, subst, ap₂, ⊎_elim, arith}
use lib.ListN.{length-map}
use Rattle.std.proofs.lemmas.Bool.{cases_lt, and_parts}
use Rattle.gf.specs.Theory.{Operations, Laws}
use Rattle.codes.specs.Codewords.{Codeword, syndrome, distance, power_sum, all_zero, Corrected, Beyond}
use Rattle.codes.specs.steps.Syndromes.{Syndromes}
use Rattle.codes.specs.Polynomials.{zeros}
use Rattle.codes.specs.steps.Decoding.{Among, point, Locator, Suspects, taken_off, Found, CorrectedPlaces}
use Rattle.codes.proofs.PowerSums.{weight-length}
use Rattle.codes.proofs.Words.{codeword_syndromes, syndromes_decide, unique}
use Rattle.codes.proofs.Suspects.{suspects_few}
use Rattle.codes.proofs.TakenOff.{syndrome-taken_off, distance-taken_off, distance-same}
use Rattle.codes.proofs.Locating.{recurrence-same, solution_found}

module _ {E : Type 0} {f : Operations E} (l : Laws f) where
  pub all_zero_at : (xs : List E) → all_zero f xs ≡ true → (i : ℕ) → i < length xs → get_or xs i f.zero ≡ f.zero
  all_zero_at [] e i h = refl
  all_zero_at (x ∷ xs) e zero h = l.equal_no x f.zero (and_parts _ _ e).0
  all_zero_at (x ∷ xs) e (suc i) h = all_zero_at xs (and_parts _ _ e).1 i (omega arith)

  pub all_zero_of : (xs : List E) → ((i : ℕ) → i < length xs → get_or xs i f.zero ≡ f.zero) → all_zero f xs ≡ true
  all_zero_of [] h = refl
  all_zero_of (x ∷ xs) h =
      ap₂ ◌&&◌ (l.equal_yes x f.zero (h 0 (omega arith))) (all_zero_of xs (λ i b. h (suc i) (omega arith)))

  -- a locator of what are the syndromes is one of the syndromes
  locator-same : (t r : ℕ) (s u : ℕ → E) (p : List E) → t * 2 ≤ r → ((i : ℕ) → i < r → s i ≡ u i) → Locator f t s p → Locator f t u p
  locator-same t r s u p b e so = record { long = so.long; some = so.some; recurs = λ i h. sym (recurrence-same f p s u i r (omega (arith, so.long)) e) ∙ so.recurs i h }

  module _ {S : Type 0} (mean : S → E) where
    -- of all codewords within r / 2 places there is only one
    module _ (r : ℕ) (word after : List S) (long : length after ≡ length word) (reach : length word ≤ f.reach)
        (codeword : Codeword f r (map mean after)) (near : distance f (map mean word) (map mean after) * 2 ≤ r) where
      only_near : (other : List E) → length other ≡ length word → Codeword f r other → (other ≡ map mean after → ⊥)
          → r < distance f (map mean word) other * 2
      only_near other e c d =
          ⊎_elim (λ (h : r < distance f (map mean word) other * 2). h)
          (λ (h : distance f (map mean word) other * 2 ≤ r).
          absurd (d (unique l r (map mean word) other (map mean after) (e ∙ sym (length-map word mean)) (length-map after mean ∙ long ∙ sym (length-map word mean))
          (omega (arith, length-map word mean)) c codeword h near)))
          (cases_lt r (distance f (map mean word) other * 2))

    -- a word whose syndromes are all zero is right as it is
    pub outcome_clean : (r : ℕ) (word : List S) → r ≤ length word → length word ≤ f.reach
        → ((i : ℕ) → i < r → syndrome f (map mean word) i ≡ f.zero) → Corrected f mean r word word 0
    outcome_clean r word h b z = record {
      long = refl;
      codeword = codeword;
      counted = sym none;
      few = omega arith;
      kept = λ j s e. refl;
      only = only_near r word word refl b codeword (omega (arith, none));
    }
      where
        none : distance f (map mean word) (map mean word) ≡ 0
        none = distance-same l (map mean word)

        codeword : Codeword f r (map mean word)
        codeword = (syndromes_decide l r (map mean word) (omega arith)).1 z

    module _ (r : ℕ) (word : List S) (places : List ℕ) (ys : List E) (s u : ℕ → E)
        (sized : r ≤ length word) (reach : length word ≤ f.reach) (syndromes : Syndromes f r (map mean word) s)
        (found : Found f r (length word) s u places ys) where
      w : List E
      w = map mean word

      off : List E
      off = taken_off f w places ys

      inside : (k : ℕ) → Among k places → k < length w
      unfolding w
      inside k m = omega (arith, found.located.suspects.below k m, length-map word mean)

      -- what is left of the syndromes are those of the word without the errors
      left : (i : ℕ) → i < r → syndrome f off i ≡ u i
      unfolding off w
      left i h =
          syndrome-taken_off l w places ys i found.many inside
          ∙ ap₂ (λ a (n : ℕ). f.add a (f.neg (power_sum f ys (map (point f n) places) i))) (sym (syndromes i h)) (length-map word mean)
          ∙ sym (found.rest i h)

      few_places : length places ≤ r / 2
      few_places =
          suspects_few l (r / 2) (length word) (length word) found.located.polynomial places reach (omega (arith, found.located.locator.long))
          (λ z. found.located.locator.some (z ∙ ap (zeros f) found.located.locator.long)) found.located.suspects

      -- nothing is left: the word without the errors is the codeword
      pub outcome_right : (after : List S) (count : ℕ) → ((i : ℕ) → i < r → u i ≡ f.zero) → CorrectedPlaces f mean places ys word after count
          → Corrected f mean r word after count
      unfolding off w
      outcome_right after count z m = record {
        long = m.long;
        codeword = codeword;
        counted = counted;
        few = few;
        kept = m.kept;
        only = only_near r word after m.long reach codeword (omega (arith, few, counted));
      }
        where
          codeword : Codeword f r (map mean after)
          codeword =
              (syndromes_decide l r (map mean after) (omega arith)).1
              (λ i h. ap (λ v. syndrome f v i) m.elements ∙ left i h ∙ z i h)

          counted : count ≡ distance f (map mean word) (map mean after)
          counted = m.counted ∙ sym (distance-taken_off l w places ys found.many found.located.suspects.apart inside) ∙ ap (distance f w) (sym m.elements)

          few : count * 2 ≤ r
          few = omega (arith, m.counted, weight-length l ys, found.many, few_places)

      -- something is left: there is no codeword within r / 2 places
      pub outcome_wrong : (((i : ℕ) → i < r → u i ≡ f.zero) → ⊥) → Beyond f mean r word word
      unfolding off w
      outcome_wrong z = record { none = none; same = refl }
        where
          half : r / 2 * 2 ≤ r
          half = omega arith

          near : (other : List E) → length other ≡ length word → Codeword f r other → distance f w other * 2 ≤ r → off ≡ other
          near other e c h =
              solution_found l r (r / 2) w other found.located.polynomial places ys (e ∙ sym (length-map word mean)) (omega (arith, length-map word mean)) half c (omega arith)
              (locator-same (r / 2) r s (syndrome f w) found.located.polynomial half syndromes found.located.locator)
              (subst (λ (n : ℕ). Suspects f found.located.polynomial n n places) (sym (length-map word mean)) found.located.suspects) found.many
              (λ i b. ap (λ (n : ℕ). power_sum f ys (map (point f n) places) i) (length-map word mean) ∙ found.solved i b ∙ syndromes i (omega (arith, few_places)))

          none : (other : List E) → length other ≡ length word → Codeword f r other → r < distance f (map mean word) other * 2
          none other e c =
              ⊎_elim (λ (h : r < distance f w other * 2). h)
              (λ (h : distance f w other * 2 ≤ r).
              absurd (z (λ i b. sym (left i b) ∙ ap (λ v. syndrome f v i) (near other e c h) ∙ codeword_syndromes l r other c i b)))
              (cases_lt r (distance f w other * 2))
