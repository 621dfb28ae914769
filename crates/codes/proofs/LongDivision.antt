-- Long division: the quotient and the rest, that nothing else is left, and a message that comes in parts.
use Rattle.std.proofs.Common.{◌≡◌, ℕ, zero, suc, ◌+◌, ◌-◌, ◌<◌, ◌≤◌, max, List, [], ◌∷◌, ◌++◌, map, length, get_or, drop, sym, refl, ap, ◌∙◌, ap₂, ⊎_elim, append_assoc, add-zero, add_comm, suc-add, zero-add, add-one, arith, length-append, drop-cons}
use lib.ListN.{length-replicate, length-map, replicate-append-replicate}
use lib.Seq.{append_snoc}
use Rattle.std.proofs.lemmas.Bool.{cases_lt}
use Rattle.gf.specs.Theory.{Operations, Laws}
use Rattle.codes.specs.Polynomials.{zeros, scale, negs, over, plus, times, coefficient, Same}
use Rattle.codes.specs.Division.{divided, remainder_of, Leaves, Remainder}
use Rattle.codes.specs.steps.Dividing.{stepped}
use Rattle.codes.proofs.Elements.{lead}
use Rattle.codes.proofs.Lists.{cons, length_over, length-multiple, length-times, over_front, over_comm, over_assoc, over_zeros, scale-zero, negs-zeros, add_back, take_back, over_swap, multiple-add, over-append}
use Rattle.codes.proofs.Same.{leading, level}

module _ {E : Type 0} {f : Operations E} (l : Laws f) where
  length_step : (c : E) (d w : List E) → length d ≤ length w → length (over f w (negs f (scale f c d))) ≡ length w
  length_step c d w h =
      ap length (over_comm l w (negs f (scale f c d)))
      ∙ length_over f (negs f (scale f c d)) w (omega (arith, length-multiple f c d))

  length-padded : (n : ℕ) (w : List E) → length (zeros f n ++ w) ≡ n + length w
  length-padded n w = length-append (zeros f n) w ∙ ap (λ (k : ℕ). k + length w) (length-replicate n f.zero)

  length-longer : (p q : List E) → length (over f p q) ≡ max (length p) (length q)
  length-longer p q =
      ⊎_elim (λ (h : length p < length q). length_over f p q (omega arith) ∙ omega arith)
      (λ (h : length q ≤ length p). ap length (over_comm l p q) ∙ length_over f q p h ∙ omega arith) (cases_lt (length p) (length q))

  -- w is q times the divisor, with the rest behind as many zeros
  abbrev Law : List E → ℕ → List E → List E → List E → Type 0
  Law d n w q rest = w ≡ over f (times f q (f.one ∷ d)) (zeros f n ++ rest)

  division : (d : List E) (n : ℕ) (w : List E) → length w ≡ n + length d
      → (q : List E) × (length q ≡ n) × Law d n w q (divided f d n w) × (length (divided f d n w) ≡ length d)
  division d zero w e = ([], refl, sym (over_zeros l (length d) w (omega arith)), omega arith)
  division d (suc n) [] e = absurd (omega arith)
  division d (suc n) (c ∷ w) e = by (division d n v (length_step c d w (omega arith) ∙ omega arith))
    where
      v : List E
      v = over f w (negs f (scale f c d))

      by : (q : List E) × (length q ≡ n) × Law d n v q (divided f d n v) × (length (divided f d n v) ≡ length d)
          → (q : List E) × (length q ≡ suc n) × Law d (suc n) (c ∷ w) q (divided f d n v) × (length (divided f d n v) ≡ length d)
      by s = (
        c ∷ s.0,
        ap suc s.1,
        cons (lead l c)
            (sym (over_assoc l (scale f c d) (times f s.0 (f.one ∷ d)) (zeros f n ++ divided f d n v)
            ∙ ap (over f (scale f c d)) (sym s.2) ∙ add_back l (scale f c d) w (omega (arith, length-map d (f.mul c))))),
        s.3,
      )

  -- nothing else is left
  division_only : (d : List E) (n : ℕ) (w q rest : List E) → length q ≡ n → length rest ≡ length d → Law d n w q rest
      → rest ≡ divided f d n w
  division_only d zero w [] rest e m h = sym (h ∙ over_zeros l (length d) rest (omega arith))
  division_only d zero w (c ∷ q) rest e m h = absurd (omega arith)
  division_only d (suc n) w [] rest e m h = absurd (omega arith)
  division_only d (suc n) w (c ∷ q) rest e m h =
      division_only d n z q rest (omega arith) m refl
      ∙ ap (divided f d n)
      (sym (ap (λ y. over f y (negs f (scale f c d))) (over_assoc l (scale f c d) (times f q (f.one ∷ d)) (zeros f n ++ rest))
      ∙ take_back l (scale f c d) z small))
      ∙ ap (λ x. divided f d n (over f (over f (over f (scale f c d) (times f q (f.one ∷ d))) (zeros f n ++ rest)) (negs f (scale f x d)))) (lead l c)
      ∙ ap (divided f d (suc n)) (sym h)
    where
      z : List E
      z = over f (times f q (f.one ∷ d)) (zeros f n ++ rest)

      long : length (zeros f n ++ rest) ≡ n + length d
      long = length-padded n rest ∙ ap (λ (k : ℕ). n + k) m

      small : length (scale f c d) ≤ length z
      small =
          omega (
            arith,
            length-map d (f.mul c),
            long,
            length-times f q f.one d,
            length_over f (times f q (f.one ∷ d)) (zeros f n ++ rest) (omega (arith, long, length-times f q f.one d)),
          )

  -- a zero in front costs a step and changes nothing
  divided-zeros : (d : List E) (n m : ℕ) (w : List E) → length d ≤ length w → divided f d (n + m) (zeros f n ++ w) ≡ divided f d m w
  divided-zeros d zero m w h = ap (λ (k : ℕ). divided f d k w) (zero-add m)
  divided-zeros d (suc n) m w h =
      ap (λ (k : ℕ). divided f d k (zeros f (suc n) ++ w)) (suc-add n m)
      ∙ ap (divided f d (n + m)) (ap (over f (zeros f n ++ w)) nothing ∙ over_comm l (zeros f n ++ w) (zeros f (length d)) ∙ over_zeros l (length d) (zeros f n ++ w) long)
      ∙ divided-zeros d n m w h
    where
      nothing : negs f (scale f f.zero d) ≡ zeros f (length d)
      nothing = ap (negs f) (scale-zero l d) ∙ negs-zeros l (length d)

      long : length d ≤ length (zeros f n ++ w)
      long = omega (arith, length-padded n w, h)

  -- the first n steps see nothing of what stands behind n + degree places
  divided_front : (d : List E) (n m : ℕ) (w v : List E) → length w ≡ n + length d
      → divided f d (n + m) (w ++ v) ≡ divided f d m (divided f d n w ++ v)
  divided_front d zero m w v e = ap (λ (k : ℕ). divided f d k (w ++ v)) (zero-add m)
  divided_front d (suc n) m [] v e = absurd (omega arith)
  divided_front d (suc n) m (c ∷ w) v e =
      ap (λ (k : ℕ). divided f d k (c ∷ (w ++ v))) (suc-add n m)
      ∙ ap (divided f d (n + m)) (over_front f w (negs f (scale f c d)) v (omega (arith, length-multiple f c d)))
      ∙ divided_front d n m (over f w (negs f (scale f c d))) v (length_step c d w (omega arith) ∙ omega arith)

  -- a step with the next symbol coming in
  divided-next : (d : List E) (n : ℕ) (r : List E) (m : E) (v : List E) → length r ≡ length d → 0 < length d
      → divided f d n (stepped f d r m ++ v) ≡ divided f d (suc n) (r ++ m ∷ v)
  divided-next d n [] m v e h = absurd (omega arith)
  divided-next d n (c ∷ r) m v e h =
      ap (divided f d n)
      (sym (over_front f (r ++ (m ∷ [])) (negs f (scale f c d)) v (omega (arith, length-multiple f c d, length-append r (m ∷ []))))
      ∙ ap (λ w. over f w (negs f (scale f c d))) (append_snoc r m v))

  -- one more symbol of a message is taken in
  pub take_in : {S : Type 0} (mean : S → E) (d : List E) (message rest new : List S) (i : ℕ) (x : S) → i < length message → x ≡ get_or message i x
      → length rest ≡ length d → 0 < length d → map mean new ≡ stepped f d (map mean rest) (mean x)
      → divided f d (length message - (i + 1)) (map mean new ++ map mean (drop (i + 1) message))
      ≡ divided f d (length message - i) (map mean rest ++ map mean (drop i message))
  take_in mean d message rest new i x h e sized some made =
      ap₂ (λ r (n : ℕ). divided f d (length message - (i + 1)) (r ++ map mean (drop n message))) made (add-one i)
      ∙ divided-next d (length message - (i + 1)) (map mean rest) (mean x) (map mean (drop (suc i) message)) (length-map rest mean ∙ sized) some
      ∙ ap₂ (λ (n : ℕ) v. divided f d n (map mean rest ++ v)) steps (sym (ap (map mean) (drop-cons message i x h) ∙ ap (λ y. mean y ∷ map mean (drop (suc i) message)) (sym e)))
    where
      steps : suc (length message - (i + 1)) ≡ length message - i
      steps = omega arith

  plus_rest : (n : ℕ) (p r : List E) → length p ≡ n + length r → plus f p r ≡ over f p (zeros f n ++ r)
  plus_rest n p r e = ap₂ (λ (i j : ℕ). over f (zeros f i ++ p) (zeros f j ++ r)) a b
    where
      a : length r - length p ≡ 0
      a = omega arith

      b : length p - length r ≡ n
      b = omega arith

  plus_quotient : (d q rest : List E) → length rest ≡ length d
      → plus f (times f q (f.one ∷ d)) rest ≡ over f (times f q (f.one ∷ d)) (zeros f (length q) ++ rest)
  plus_quotient d q rest e =
      plus_rest (length q) (times f q (f.one ∷ d)) rest (omega (arith, e, length-times f q f.one d))

  pub length-remainder : (d w : List E) → length (remainder_of f w (f.one ∷ d)) ≡ length d
  length-remainder d w = (division d (length w) (zeros f (length d) ++ w) (length-padded (length d) w ∙ omega arith)).3

  leaves : (d w : List E) → Leaves f w (f.one ∷ d) (remainder_of f w (f.one ∷ d))
  leaves d w = by (division d (length w) (zeros f (length d) ++ w) (length-padded (length d) w ∙ omega arith))
    where
      rest : List E
      rest = remainder_of f w (f.one ∷ d)

      by : (q : List E) × (length q ≡ length w) × Law d (length w) (zeros f (length d) ++ w) q rest × (length rest ≡ length d)
          → Leaves f w (f.one ∷ d) rest
      by s = (
        omega (arith, s.3),
        (
          s.0,
          λ k.
              sym (leading f (length d) w k)
              ∙ ap (λ p. reverse_at p k) (s.2 ∙ ap (λ (n : ℕ). over f (times f s.0 (f.one ∷ d)) (zeros f n ++ rest)) (sym s.1)
              ∙ sym (plus_quotient d s.0 rest s.3)),
        ),
      )
        where
          reverse_at : List E → ℕ → E
          reverse_at p k = coefficient f p k

  only_rest : (d w other : List E) → Leaves f w (f.one ∷ d) other → other ≡ remainder_of f w (f.one ∷ d)
  only_rest d w other h = by h.1.0 h.1.1
    where
      sized : length other ≡ length d
      sized = omega (arith, h.0)

      by : (q : List E) → Same f w (plus f (times f q (f.one ∷ d)) other) → other ≡ remainder_of f w (f.one ∷ d)
      by q s =
          division_only d (length q) p q other refl sized refl
          ∙ sym (divided-zeros d (length w) (length q) p (omega (arith, long)))
          ∙ ap₂ (divided f d) (omega arith) (sym one_list ∙ ap (λ z. z ++ w) (sym (replicate-append-replicate (length q) (length d) f.zero))
          ∙ append_assoc (zeros f (length q)) (zeros f (length d)) w)
          ∙ divided-zeros d (length q) (length w) (zeros f (length d) ++ w) (omega (arith, length-padded (length d) w))
        where
          p : List E
          p = over f (times f q (f.one ∷ d)) (zeros f (length q) ++ other)

          long : length p ≡ length q + length d
          long =
              length_over f (times f q (f.one ∷ d)) (zeros f (length q) ++ other)
              (omega (arith, sized, length-padded (length q) other, length-times f q f.one d))
              ∙ length-padded (length q) other ∙ ap (λ (k : ℕ). length q + k) sized

          one_list : zeros f (length q + length d) ++ w ≡ zeros f (length w) ++ p
          one_list =
              level f (zeros f (length q + length d) ++ w) (zeros f (length w) ++ p)
              (length-padded (length q + length d) w ∙ sym (length-padded (length w) p ∙ ap (λ (k : ℕ). length w + k) long ∙ omega arith))
              (λ k.
              leading f (length q + length d) w k ∙ s k
              ∙ ap (λ z. coefficient f z k) (plus_quotient d q other sized) ∙ sym (leading f (length w) p k))

  -- the remainder is what a division leaves, and the only such
  pub remainder : (d w : List E) → Remainder f w (f.one ∷ d) (remainder_of f w (f.one ∷ d))
  remainder d w = record { value = refl; left = leaves d w; only = only_rest d w }

  -- as many symbols as the degree are their own remainder
  pub remainder_short : (d w : List E) → length w ≡ length d → remainder_of f w (f.one ∷ d) ≡ w
  remainder_short d w e =
      ap₂ (λ (n : ℕ) z. divided f d n (z ++ w)) (sym (add-zero (length w))) (ap (zeros f) (sym e))
      ∙ divided-zeros d (length w) 0 w (omega (arith, e))

  -- what is divided after as many symbols as the degree
  pub remainder_after : (d r w : List E) → length r ≡ length d → remainder_of f (r ++ w) (f.one ∷ d) ≡ divided f d (length w) (r ++ w)
  remainder_after d r w e =
      ap₂ (λ (n : ℕ) z. divided f d n (z ++ (r ++ w))) (length-append r w) (ap (zeros f) (sym e))
      ∙ divided-zeros d (length r) (length w) (r ++ w) (omega (arith, e, length-append r w))

  -- a message that comes in two parts: the remainder of the first stands for it
  pub remainder_parts : (d v w : List E)
      → remainder_of f (v ++ w) (f.one ∷ d) ≡ remainder_of f (remainder_of f v (f.one ∷ d) ++ w) (f.one ∷ d)
  remainder_parts d v w =
      ap₂ (divided f d) (length-append v w) (sym (append_assoc (zeros f (length d)) v w))
      ∙ divided_front d (length v) (length w) (zeros f (length d) ++ v) w (length-padded (length d) v ∙ omega arith)
      ∙ sym (remainder_after d (remainder_of f v (f.one ∷ d)) w (length-remainder d v))

  -- the division of a sum
  divided-over : (d : List E) (n : ℕ) (u v : List E) → length u ≡ length v
      → divided f d n (over f u v) ≡ over f (divided f d n u) (divided f d n v)
  divided-over d zero u v e = refl
  divided-over d (suc n) [] [] e = refl
  divided-over d (suc n) [] (b ∷ v) e = absurd (omega arith)
  divided-over d (suc n) (a ∷ u) [] e = absurd (omega arith)
  divided-over d (suc n) (a ∷ u) (b ∷ v) e =
      ap (divided f d n)
      (ap (over f (over f u v)) (multiple-add l a b d) ∙ over_swap l u v (negs f (scale f a d)) (negs f (scale f b d)))
      ∙ divided-over d n (over f u (negs f (scale f a d))) (over f v (negs f (scale f b d))) (level_steps a b u v (omega arith))
    where
      level_steps : (a b : E) (u v : List E) → length u ≡ length v
          → length (over f u (negs f (scale f a d))) ≡ length (over f v (negs f (scale f b d)))
      level_steps a b u v h =
          length-longer u (negs f (scale f a d)) ∙ ap₂ max h (length-multiple f a d ∙ sym (length-multiple f b d))
          ∙ sym (length-longer v (negs f (scale f b d)))

  -- the remainder of a sum is the sum of the remainders
  pub remainder-over : (d u v : List E) → length u ≡ length v
      → remainder_of f (over f u v) (f.one ∷ d) ≡ over f (remainder_of f u (f.one ∷ d)) (remainder_of f v (f.one ∷ d))
  remainder-over d u v e =
      ap₂ (divided f d) (length_over f u v (omega arith) ∙ sym e)
      (ap (λ z. z ++ over f u v) (sym (over_zeros l (length d) (zeros f (length d)) (omega (arith, length-replicate (length d) f.zero))))
      ∙ sym (over-append l (zeros f (length d)) (zeros f (length d)) u v refl))
      ∙ divided-over d (length u) (zeros f (length d) ++ u) (zeros f (length d) ++ v) (length-padded (length d) u ∙ ap (λ (n : ℕ). length d + n) e ∙ sym (length-padded (length d) v))
      ∙ ap (λ (n : ℕ). over f (divided f d (length u) (zeros f (length d) ++ u)) (divided f d n (zeros f (length d) ++ v))) e

  -- zeros in front of a message do not count
  pub remainder-zeros : (d : List E) (n : ℕ) (w : List E) → remainder_of f (zeros f n ++ w) (f.one ∷ d) ≡ remainder_of f w (f.one ∷ d)
  remainder-zeros d n w =
      ap₂ (divided f d) (length-padded n w)
      (sym (append_assoc (zeros f (length d)) (zeros f n) w)
      ∙ ap (λ z. z ++ w) (replicate-append-replicate (length d) n f.zero ∙ ap (zeros f) (add_comm (length d) n) ∙ sym (replicate-append-replicate n (length d) f.zero))
      ∙ append_assoc (zeros f n) (zeros f (length d)) w)
      ∙ divided-zeros d n (length w) (zeros f (length d) ++ w) (omega (arith, length-padded (length d) w))
