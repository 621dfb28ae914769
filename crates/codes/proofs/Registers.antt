-- How places are written one by one, and one step of a division in place: what stands at each place after it.
use Rattle.std.proofs.Common.{◌≡◌, ℕ, zero, suc, ◌+◌, ◌<◌, ◌≤◌, List, [], ◌∷◌, ◌++◌, map, length, get_or, take, drop, set, sym, refl, ap, ◌∙◌, ap₂, append-nil, add-zero, add-one, arith, length-append, length-take-le, get_or-drop, take_all, drop-cons, take-suc, get_or-append-add}
use lib.ListN.{length-map}
use lib.Seq.{append_snoc, map-set, set_at, get_or_at}
use Rattle.std.proofs.lemmas.List.{get_or-map, get_or_append_left, drop_all}
use Rattle.gf.specs.Theory.{Operations}
use Rattle.codes.specs.Polynomials.{scale, negs, over}
use Rattle.codes.specs.steps.Dividing.{stepped}
use Rattle.codes.proofs.Lists.{length_over, length-multiple}

module _ {E : Type 0} (z : E) where
  -- the next place is written
  pub advance : (new old : List E) (j : ℕ) → length new ≡ length old → j < length old
      → set (take j new ++ drop j old) j (get_or new j z) ≡ take (j + 1) new ++ drop (j + 1) old
  advance new old j e h =
      ap (λ b. set (take j new ++ b) j (get_or new j z)) (drop-cons old j z h)
      ∙ set_at (take j new) (get_or old j z) (drop (suc j) old) (get_or new j z) j (length-take-le j new (omega arith))
      ∙ sym (append_snoc (take j new) (get_or new j z) (drop (suc j) old))
      ∙ ap₂ (λ a (n : ℕ). a ++ drop n old) (sym (take-suc new j z (omega arith)) ∙ ap (λ (n : ℕ). take n new) (sym (add-one j))) (sym (add-one j))

  -- the places from j on are still as they were
  pub ahead : (new old : List E) (j k : ℕ) → length new ≡ length old → j ≤ length old
      → get_or (take j new ++ drop j old) (j + k) z ≡ get_or old (j + k) z
  ahead new old j k e h =
      ap (λ (n : ℕ). get_or (take j new ++ drop j old) (n + k) z) (sym (length-take-le j new (omega arith)))
      ∙ get_or-append-add (take j new) (drop j old) k z ∙ get_or-drop j old k z

  -- the next place is still as it was
  pub next_as_was : (new old : List E) (j : ℕ) → length new ≡ length old → j ≤ length old
      → get_or (take j new ++ drop j old) j z ≡ get_or old j z
  next_as_was new old j e h =
      ap (λ (n : ℕ). get_or (take j new ++ drop j old) n z) (sym (add-zero j)) ∙ ahead new old j 0 e h ∙ ap (λ (n : ℕ). get_or old n z) (add-zero j)

  -- all places are written
  pub whole : (new old : List E) (n : ℕ) → length new ≤ n → length old ≤ n → take n new ++ drop n old ≡ new
  whole new old n h k = ap₂ ◌++◌ (take_all n new h) (drop_all n old k) ∙ append-nil new

module _ {E : Type 0} (f : Operations E) where
  pub get_or_over : (p q : List E) (j : ℕ) → j < length p → j < length q
      → get_or (over f p q) j f.zero ≡ f.add (get_or p j f.zero) (get_or q j f.zero)
  get_or_over [] q j h k = absurd (omega arith)
  get_or_over (a ∷ p) [] j h k = absurd (omega arith)
  get_or_over (a ∷ p) (b ∷ q) zero h k = refl
  get_or_over (a ∷ p) (b ∷ q) (suc j) h k = get_or_over p q j (omega arith) (omega arith)

  multiple_at : (c : E) (d : List E) (j : ℕ) → j < length d
      → get_or (negs f (scale f c d)) j f.zero ≡ f.neg (f.mul c (get_or d j f.zero))
  multiple_at c d j h =
      get_or-map f.neg (scale f c d) j f.zero f.zero (omega (arith, h, length-map d (f.mul c)))
      ∙ ap f.neg (get_or-map (f.mul c) d j f.zero f.zero h)

  length_in : (r : List E) (m : E) → length (r ++ (m ∷ [])) ≡ suc (length r)
  length_in r m = length-append r (m ∷ []) ∙ omega arith

  module _ (d : List E) (c : E) (r : List E) (m : E) (e : suc (length r) ≡ length d) where
    length-stepped-cons : length (stepped f d (c ∷ r) m) ≡ length d
    length-stepped-cons =
        length_over f (r ++ (m ∷ [])) (negs f (scale f c d)) (omega (arith, length_in r m, length-multiple f c d)) ∙ length-multiple f c d

    stepped-cons_at : (j : ℕ) → j < length d
        → get_or (stepped f d (c ∷ r) m) j f.zero ≡ f.add (get_or (r ++ (m ∷ [])) j f.zero) (f.neg (f.mul c (get_or d j f.zero)))
    stepped-cons_at j h =
        get_or_over (r ++ (m ∷ [])) (negs f (scale f c d)) j (omega (arith, length_in r m)) (omega (arith, length-multiple f c d))
        ∙ ap (f.add (get_or (r ++ (m ∷ [])) j f.zero)) (multiple_at c d j h)

  pub length-stepped : (d r : List E) (m : E) → length r ≡ length d → 0 < length d → length (stepped f d r m) ≡ length d
  length-stepped d [] m e h = absurd (omega arith)
  length-stepped d (c ∷ r) m e h = length-stepped-cons d c r m e

  -- before the last place stands what stood behind, less the multiple of the divisor
  pub stepped_at : (d r : List E) (m : E) (j : ℕ) → length r ≡ length d → j + 1 < length d
      → get_or (stepped f d r m) j f.zero
      ≡ f.add (get_or r (j + 1) f.zero) (f.neg (f.mul (get_or r 0 f.zero) (get_or d j f.zero)))
  stepped_at d [] m j e h = absurd (omega arith)
  stepped_at d (c ∷ r) m j e h =
      stepped-cons_at d c r m e j (omega arith)
      ∙ ap (λ a. f.add a (f.neg (f.mul c (get_or d j f.zero))))
      (get_or_append_left r (m ∷ []) f.zero j (omega arith) ∙ ap (λ (n : ℕ). get_or (c ∷ r) n f.zero) (sym (add-one j)))

  -- at the last place stands the symbol that came in, less the multiple of the divisor
  pub stepped_last : (d r : List E) (m : E) (j : ℕ) → length r ≡ length d → j + 1 ≡ length d
      → get_or (stepped f d r m) j f.zero ≡ f.add m (f.neg (f.mul (get_or r 0 f.zero) (get_or d j f.zero)))
  stepped_last d [] m j e h = absurd (omega arith)
  stepped_last d (c ∷ r) m j e h =
      stepped-cons_at d c r m e j (omega arith)
      ∙ ap (λ a. f.add a (f.neg (f.mul c (get_or d j f.zero)))) (get_or_at r m [] f.zero j (omega arith))

  -- a symbol that is read means what stands there in the list of elements
  pub read : {S : Type 0} (mean : S → E) (xs : List S) (j : ℕ) (x : S) → j < length xs → x ≡ get_or xs j x
      → mean x ≡ get_or (map mean xs) j f.zero
  read mean xs j x h e = ap mean e ∙ sym (get_or-map mean xs j x f.zero h)

  -- the next place is written, from what it was
  pub next_written : {S : Type 0} (mean : S → E) (xs : List S) (new old : List E) (j : ℕ) (d x : S) → length new ≡ length old → length xs ≡ length old
      → j < length xs → map mean xs ≡ take j new ++ drop j old → (mean (get_or xs j d) ≡ get_or old j f.zero → mean x ≡ get_or new j f.zero)
      → map mean (set xs j x) ≡ take (j + 1) new ++ drop (j + 1) old
  next_written mean xs new old j d x e k h so write =
      map-set mean xs j x
      ∙ ap₂ (λ ys y. set ys j y) so
      (write (sym (get_or-map mean xs j d f.zero h) ∙ ap (λ ys. get_or ys j f.zero) so ∙ next_as_was f.zero new old j e (omega arith)))
      ∙ advance f.zero new old j e (omega arith)

  -- a function is mapped over the places one by one, and the next is written
  pub next_mapped : {S : Type 0} (mean : S → E) (g : E → E) (xs : List S) (old : List E) (j : ℕ) (d x : S) → length xs ≡ length old → j < length xs
      → map mean xs ≡ take j (map g old) ++ drop j old → mean x ≡ g (mean (get_or xs j d)) → map mean (set xs j x) ≡ take (j + 1) (map g old) ++ drop (j + 1) old
  next_mapped mean g xs old j d x k h so e =
      next_written mean xs (map g old) old j d x (length-map old g) k h so
      (λ here. e ∙ ap g here ∙ sym (get_or-map g old j f.zero f.zero (omega arith)))
