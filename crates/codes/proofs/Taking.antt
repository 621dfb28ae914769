-- A symbol taken into each syndrome, place by place, and a word taken in symbol by symbol.
use Rattle.std.proofs.Common.{◌≡◌, ℕ, ◌+◌, ◌<◌, ◌≤◌, Bool, ◌&&◌, fold, List, [], ◌∷◌, ◌++◌, map, length, get_or, take, sym, ap, ◌∙◌, subst, ⊎_elim, take_all, arith}
use lib.ListN.{length-map}
use mathlib.Core.Bool.{and_assoc, and-true}
use mathlib.Core.List.{map-append}
use Rattle.std.proofs.lemmas.List.{take_more, get_or-map}
use Rattle.std.proofs.lemmas.Bool.{cases_eq}
use Rattle.gf.specs.Theory.{Operations, Laws, pow}
use Rattle.codes.specs.Polynomials.{value}
use Rattle.codes.specs.Codewords.{syndrome, all_zero}
use Rattle.codes.specs.steps.Elimination.{entries}
use Rattle.codes.specs.steps.Syndromes.{Taken, Syndromes}
use Rattle.codes.proofs.Values.{value-snoc}

-- the part of a list before the next index, mapped
next : {S E : Type 0} (mean : S → E) (xs : List S) (i : ℕ) (x : S) → i < length xs → x ≡ get_or xs i x
    → map mean (take (i + 1) xs) ≡ map mean (take i xs) ++ (mean x ∷ [])
next mean xs i x h e =
    ap (map mean) (take_more xs i x h) ∙ map-append mean (take i xs) (get_or xs i x ∷ []) ∙ ap (λ y. map mean (take i xs) ++ (mean y ∷ [])) (sym e)

module _ {E : Type 0} (f : Operations E) where
  -- at each place i below n stands the value, at the i-th power of the root, of the word with a zero behind it
  abbrev pub Raised : ℕ → List E → (ℕ → E) → Type 0
  Raised n word u = (i : ℕ) → i < n → u i ≡ f.mul (syndrome f word i) (pow f f.root i)

  -- one place more
  pub taken_more : (n : ℕ) (c : E) (v u z : ℕ → E) → Taken f n c v u
      → z n ≡ f.mul (f.add (u n) c) (pow f f.root n) → ((i : ℕ) → (i ≡ n → ⊥) → z i ≡ u i) → Taken f (n + 1) c v z
  taken_more n c v u z s here other = record {
    done = λ i h. ⊎_elim
        (λ (y : i ≡ n). subst (λ i. z i ≡ f.mul (f.add (v i) c) (pow f f.root i)) (sym y)
        (here ∙ ap (λ a. f.mul (f.add a c) (pow f f.root n)) (s.left n (omega arith))))
        (λ (d : i ≡ n → ⊥). other i d ∙ s.done i (omega (arith, d))) (cases_eq i n);
    left = λ i h. other i (λ y. omega arith) ∙ s.left i (omega arith);
  }

  -- a fold over the tests of all symbols
  pub all_zero-fold : {S : Type 0} (mean : S → E) (z : E) (b : Bool) (xs : List S) → z ≡ f.zero
      → fold (λ b x. b && f.equal (mean x) z) b xs ≡ b && all_zero f (map mean xs)
  all_zero-fold mean z b [] e = sym (and-true b)
  all_zero-fold mean z b (x ∷ xs) e =
      all_zero-fold mean z (b && f.equal (mean x) z) xs e
      ∙ and_assoc b (f.equal (mean x) z) (all_zero f (map mean xs))
      ∙ ap (λ y. b && (f.equal (mean x) y && all_zero f (map mean xs))) e

module _ {E : Type 0} {f : Operations E} (l : Laws f) where
  -- one symbol more
  pub raised_more : {S : Type 0} (mean : S → E) (word : List S) (k : ℕ) (x : S) (n : ℕ) (v u : ℕ → E) → k < length word → x ≡ get_or word k x
      → Raised f n (map mean (take k word)) v → Taken f n (mean x) v u → Raised f n (map mean (take (k + 1) word)) u
  raised_more mean word k x n v u h e s t i b =
      t.done i b
      ∙ ap (λ y. f.mul y (pow f f.root i))
      (ap (λ y. f.add y (mean x)) (s i b)
      ∙ sym (ap (value f (pow f f.root i)) (next mean word k x h e) ∙ value-snoc l (pow f f.root i) (map mean (take k word)) (mean x)))

  -- the last symbol comes in
  pub syndromes_last : {S : Type 0} (mean : S → E) (word others : List S) (last : S) (k n : ℕ) (v w : List S) → word ≡ others ++ (last ∷ []) → length others ≤ k → length v ≡ n
      → Raised f n (map mean (take k others)) (entries f mean v) → map mean w ≡ map (λ y. f.add y (mean last)) (map mean v)
      → Syndromes f n (map mean word) (entries f mean w)
  unfolding entries
  syndromes_last mean word others last k n v w parts end long s e i b =
      let x = pow f f.root i in
      ap (λ ys. get_or ys i f.zero) e
      ∙ get_or-map (λ y. f.add y (mean last)) (map mean v) i f.zero f.zero (omega (arith, length-map v mean))
      ∙ ap (λ y. f.add y (mean last)) (s i b ∙ ap (λ p. f.mul (value f x (map mean p)) x) (take_all k others end))
      ∙ sym (ap (λ p. value f x (map mean p)) parts ∙ ap (value f x) (map-append mean others (last ∷ [])) ∙ value-snoc l x (map mean others) (mean last))

  -- an empty word has only syndromes that are zero
  pub syndromes_empty : {S : Type 0} (mean : S → E) (word : List S) (n : ℕ) (u : ℕ → E) → length word ≡ 0 → ((i : ℕ) → u i ≡ f.zero) → Syndromes f n (map mean word) u
  syndromes_empty mean [] n u e none i b = none i
  syndromes_empty mean (x ∷ xs) n u e none i b = absurd (omega arith)
