-- The checks that a division gives: they make a codeword, and no other codeword has these data.
use Rattle.std.proofs.Common.{◌≡◌, ℕ, zero, suc, ◌+◌, ◌-◌, ◌<◌, ◌≤◌, Bool, true, false, cond, List, [], ◌∷◌, ◌++◌, map, length, get_or, take, drop, sym, refl, ap, ◌∙◌, subst, ap₂, append-nil, arith, length-append, length-drop, length-take-le, take_at, drop_at}
use mathlib.Core.List.{tail, map-append}
use lib.ListN.{length-map, length-replicate}
use borrow.Author.Tests.{clash}
use borrow.Rule.Slice.PartMut.{put_mid, take_put}
use Rattle.std.proofs.lemmas.List.{drop_all, take-map}
use Rattle.gf.specs.Theory.{Operations, Laws, pow}
use Rattle.codes.specs.Polynomials.{zeros, negs, plus, times}
use Rattle.codes.specs.Division.{remainder_of, Remainder}
use Rattle.codes.specs.Codewords.{generator, Codeword, syndrome, distance, Filled}
use Rattle.codes.proofs.Elements.{zero-add, mul-zero}
use Rattle.codes.proofs.Values.{value-append, value-zeros, value-negs, value-plus, value-times, same_values}
use Rattle.codes.proofs.Words.{generator-value, syndromes_decide, minimum_distance}

-- the end of a list is written
end_put : {S : Type 0} (a k : ℕ) (xs ys : List S) → length xs ≤ a + k → put_mid a k xs ys ≡ take a xs ++ ys
end_put a k xs ys h =
    ap (λ end. take a xs ++ (ys ++ end)) (drop_all k (drop a xs) (omega (arith, length-drop a xs))) ∙ ap (λ end. take a xs ++ end) (append-nil ys)

module _ {E : Type 0} {f : Operations E} (l : Laws f) where
  pub filled_codeword : (r : ℕ) (symbols rest : List E) → r ≤ f.reach → length rest ≡ r
      → Remainder f (symbols ++ zeros f r) (generator f r) rest → Codeword f r (symbols ++ negs f rest)
  filled_codeword r symbols rest h e m = (syndromes_decide l r (symbols ++ negs f rest) h).1 zero_at
    where
      -- the data with zeros behind have the values of the rest
      rest_at : (i : ℕ) → i < r → syndrome f (symbols ++ zeros f r) i ≡ syndrome f rest i
      rest_at i k =
          let q = m.left.1.0 in
          same_values l (pow f f.root i) (symbols ++ zeros f r) (plus f (times f q (generator f r)) rest) m.left.1.1
          ∙ value-plus l (pow f f.root i) (times f q (generator f r)) rest
          ∙ ap (λ z. f.add z (syndrome f rest i)) (value-times l (pow f f.root i) q (generator f r)
          ∙ ap (f.mul (syndrome f q i)) (generator-value l r i k) ∙ mul-zero l _) ∙ zero-add l _

      data_at : (i : ℕ) → f.mul (syndrome f symbols i) (pow f (pow f f.root i) r) ≡ syndrome f (symbols ++ zeros f r) i
      data_at i =
          sym (value-append l (pow f f.root i) symbols (zeros f r)
          ∙ ap₂ (λ (n : ℕ) z. f.add (f.mul (syndrome f symbols i) (pow f (pow f f.root i) n)) z)
          (length-replicate r f.zero) (value-zeros l (pow f f.root i) r) ∙ l.add-zero _)

      zero_at : (i : ℕ) → i < r → syndrome f (symbols ++ negs f rest) i ≡ f.zero
      zero_at i k =
          value-append l (pow f f.root i) symbols (negs f rest)
          ∙ ap₂ (λ (n : ℕ) z. f.add (f.mul (syndrome f symbols i) (pow f (pow f f.root i) n)) z)
          (length-map rest f.neg ∙ e) (value-negs l (pow f f.root i) rest)
          ∙ ap (λ z. f.add z (f.neg (syndrome f rest i))) (data_at i ∙ rest_at i k) ∙ l.add-neg (syndrome f rest i)

  -- words that begin with k same symbols differ in the others at most
  distance-take : (k : ℕ) (u v : List E) → length u ≡ length v → take k u ≡ take k v → distance f u v ≤ length u - k
  distance-take k [] v e t = omega arith
  distance-take k (a ∷ u) [] e t = absurd (omega arith)
  distance-take zero (a ∷ u) (b ∷ v) e t = by (f.equal a b) (distance-take zero u v (omega arith) refl)
    where
      by : (c : Bool) → distance f u v ≤ length u - 0 → cond c (distance f u v) (suc (distance f u v)) ≤ suc (length u) - 0
      by true h = omega arith
      by false h = omega arith
  distance-take (suc k) (a ∷ u) (b ∷ v) e t =
      by (f.equal a b) (l.equal_yes a b (ap (λ p. get_or p 0 a) t)) (distance-take k u v (omega arith) (ap tail t))
    where
      by : (c : Bool) → c ≡ true → distance f u v ≤ length u - k → cond c (distance f u v) (suc (distance f u v)) ≤ suc (length u) - suc k
      by true c h = omega arith
      by false c h = absurd (clash c)

  -- a codeword is known by its data
  pub same_data : (r : ℕ) (u v : List E) → length u ≡ length v → r ≤ length u → length u ≤ f.reach
      → take (length u - r) u ≡ take (length u - r) v → Codeword f r u → Codeword f r v → u ≡ v
  same_data r u v e h n t c d =
      minimum_distance l r u v e n c d (omega (arith, distance-take (length u - r) u v e t))

  -- the word with zeros for checks is divided, and the negatives of the rest are its checks
  filled : {S : Type 0} (mean : S → E) (r : ℕ) (before cleared rest written : List S) → r ≤ length before → length before ≤ f.reach → length rest ≡ r
      → map mean cleared ≡ zeros f r → Remainder f (map mean (take (length before - r) before ++ cleared)) (generator f r) (map mean rest)
      → map mean written ≡ negs f (map mean rest) → Filled f mean r before (take (length before - r) before ++ written)
  filled {S = S} mean r before cleared rest written h n e none m negative = record {
    long = long;
    data_kept = kept;
    checks =
        ap (drop (length before - r)) whole ∙ drop_at (map mean symbols) (negs f (map mean rest)) (length before - r) (length-map symbols mean ∙ data_long)
        ∙ ap (negs f) (m.value ∙ ap (λ w. remainder_of f w (generator f r)) (padded ∙ ap (λ w. w ++ zeros f r) (sym (take-map mean (length before - r) before))));
    codeword = codeword;
    only = λ other sized c t. same_data r other (map mean after) (sized ∙ sym (length-map after mean ∙ long)) (omega arith) (omega arith)
        (ap (λ (k : ℕ). take (k - r) other) sized ∙ t ∙ take-map mean (length before - r) before
        ∙ sym (ap (λ (k : ℕ). take (k - r) (map mean after)) sized ∙ take-map mean (length before - r) after ∙ ap (map mean) kept)) c codeword;
  }
    where
      symbols : List S
      symbols = take (length before - r) before

      after : List S
      after = symbols ++ written

      data_long : length symbols ≡ length before - r
      data_long = length-take-le (length before - r) before (omega arith)

      checks_long : length written ≡ r
      checks_long = sym (length-map written mean) ∙ ap length negative ∙ length-map (map mean rest) f.neg ∙ length-map rest mean ∙ e

      long : length after ≡ length before
      long = length-append symbols written ∙ omega (arith, data_long, checks_long)

      kept : take (length before - r) after ≡ symbols
      kept = take_at symbols written (length before - r) data_long

      -- what is divided
      padded : map mean (symbols ++ cleared) ≡ map mean symbols ++ zeros f r
      padded = map-append mean symbols cleared ∙ ap (λ w. map mean symbols ++ w) none

      whole : map mean after ≡ map mean symbols ++ negs f (map mean rest)
      whole = map-append mean symbols written ∙ ap (λ w. map mean symbols ++ w) negative

      codeword : Codeword f r (map mean after)
      codeword =
          subst (Codeword f r) (sym whole)
          (filled_codeword r (map mean symbols) (map mean rest) (omega arith) (length-map rest mean ∙ e)
          (subst (λ w. Remainder f w (generator f r) (map mean rest)) padded m))

  -- the same, as the end of the word is written twice in place
  pub filled_in_place : {S : Type 0} (mean : S → E) (r k m : ℕ) (before cleared rest written : List S) (divisor : List E)
      → r ≤ length before → length before ≤ f.reach → length rest ≡ r → r ≤ k → map mean cleared ≡ zeros f r → divisor ≡ generator f r
      → let word : List S = put_mid (length before - r) k before cleared in
      length word - (length before - r) ≤ m → Remainder f (map mean word) divisor (map mean rest) → map mean written ≡ negs f (map mean rest)
      → Filled f mean r before (put_mid (length before - r) m word written)
  filled_in_place mean r k m before cleared rest written divisor h n e long none made more left negative =
      let first : ℕ = length before - r in
      let word : List _ = put_mid first k before cleared in
      subst (Filled f mean r before) (sym (end_put first m word written (omega arith) ∙ ap (λ w. w ++ written) (take_put first k before cleared (omega arith))))
      (filled mean r before cleared rest written h n e none
      (subst (λ w. Remainder f (map mean w) (generator f r) (map mean rest)) (end_put first k before cleared (omega arith))
      (subst (λ d. Remainder f (map mean word) d (map mean rest)) made left)) negative)
