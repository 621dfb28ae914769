-- Equations that hold in every commutative ring, by computing: both sides are written as expressions, the difference is multiplied
-- out to a list of signed products, and opposite products cancel.
use Rattle.std.proofs.Common.{◌≡◌, ℕ, Bool, true, false, cond, not, ◌&&◌, T, eqb, leb, List, [], ◌∷◌, get_or, sym, refl, ap, ◌∙◌, subst, ap₂, eqb→eq}
use Rattle.gf.specs.Theory.{Operations, Laws}
use Rattle.codes.proofs.Elements.{zero-add, mul-zero, zero-mul, neg-zero, neg-add, add-mul, one-mul, neg-neg, neg-mul, mul-neg, equal_of}

infixl 65 ◌⊕◌
infixl 70 ◌⊗◌
infixr 80 ⊝◌
infix 50 ◌≐◌
-- expressions in numbered variables
pub data Exp : Type 0 where
  var : ℕ → Exp
  O I : Exp
  ◌⊕◌ ◌⊗◌ : Exp → Exp → Exp
  ⊝◌ : Exp → Exp

pub data Equation : Type 0 where
  ◌≐◌ : Exp → Exp → Equation

-- a signed product of variables, sorted
pub data Term : Type 0 where
  term : Bool → List ℕ → Term

abbrev insert : ℕ → List ℕ → List ℕ
insert i [] = i ∷ []
insert i (j ∷ m) = cond (leb i j) (i ∷ j ∷ m) (j ∷ insert i m)

abbrev merge : List ℕ → List ℕ → List ℕ
merge [] m = m
merge (i ∷ n) m = insert i (merge n m)

abbrev same : List ℕ → List ℕ → Bool
same [] [] = true
same [] (j ∷ m) = false
same (i ∷ n) [] = false
same (i ∷ n) (j ∷ m) = eqb i j && same n m

abbrev unlike : Bool → Bool → Bool
unlike true b = not b
unlike false b = b

abbrev flip : Term → Term
flip (term s m) = term (not s) m

abbrev opposite : Term → Term → Bool
opposite (term s n) (term r m) = unlike s r && same n m

abbrev product : Term → Term → Term
product (term s n) (term r m) = term (unlike s r) (merge n m)

abbrev put : Term → List Term → List Term
put a [] = a ∷ []
put a (b ∷ p) = cond (opposite a b) p (b ∷ put a p)

abbrev sum : List Term → List Term → List Term
sum [] q = q
sum (a ∷ p) q = put a (sum p q)

abbrev flips : List Term → List Term
flips [] = []
flips (a ∷ p) = flip a ∷ flips p

abbrev scale : Term → List Term → List Term
scale a [] = []
scale a (b ∷ q) = put (product a b) (scale a q)

abbrev products : List Term → List Term → List Term
products [] q = []
products (a ∷ p) q = sum (scale a q) (products p q)

abbrev norm : Exp → List Term
norm (var i) = term false (i ∷ []) ∷ []
norm O = []
norm I = term false [] ∷ []
norm (a ⊕ b) = sum (norm a) (norm b)
norm (a ⊗ b) = products (norm a) (norm b)
norm (⊝ a) = flips (norm a)

abbrev none : List Term → Bool
none [] = true
none (a ∷ p) = false

-- the two sides come to the same
abbrev pub holds : Equation → Bool
holds (a ≐ b) = none (norm (a ⊕ (⊝ b)))

same_sound : (n m : List ℕ) → T (same n m) → n ≡ m
same_sound [] [] h = refl
same_sound [] (j ∷ m) h = absurd h
same_sound (i ∷ n) [] h = absurd h
same_sound (i ∷ n) (j ∷ m) h = both (eqb i j) refl h (same_sound n m)
  where
    both : (b : Bool) → eqb i j ≡ b → T (b && same n m) → (T (same n m) → n ≡ m) → ◌≡◌ {A = List ℕ} (i ∷ n) (j ∷ m)
    both true e h s = ap₂ (λ (k : ℕ) (p : List ℕ). k ∷ p) (eqb→eq i j (subst T (sym e) tt)) (s h)
    both false e h s = absurd h

module _ {E : Type 0} (f : Operations E) (env : List E) where
  abbrev pub of : Exp → E
  of (var i) = get_or env i f.zero
  of O = f.zero
  of I = f.one
  of (a ⊕ b) = f.add (of a) (of b)
  of (a ⊗ b) = f.mul (of a) (of b)
  of (⊝ a) = f.neg (of a)

  abbrev pub Holds : Equation → Type 0
  Holds (a ≐ b) = of a ≡ of b

  signed : Bool → E → E
  signed true x = f.neg x
  signed false x = x

  factors : List ℕ → E
  factors [] = f.one
  factors (i ∷ m) = f.mul (get_or env i f.zero) (factors m)

  of_term : Term → E
  of_term (term s m) = signed s (factors m)

  terms : List Term → E
  terms [] = f.zero
  terms (a ∷ p) = f.add (of_term a) (terms p)

module _ {E : Type 0} {f : Operations E} (l : Laws f) where
  add_past : (a b c : E) → f.add a (f.add b c) ≡ f.add b (f.add a c)
  add_past a b c = sym (l.add_assoc a b c) ∙ ap (λ z. f.add z c) (l.add_comm a b) ∙ l.add_assoc b a c

  mul_past : (a b c : E) → f.mul a (f.mul b c) ≡ f.mul b (f.mul a c)
  mul_past a b c = sym (l.mul_assoc a b c) ∙ ap (λ z. f.mul z c) (l.mul_comm a b) ∙ l.mul_assoc b a c

  module _ (env : List E) where
    insert_sound : (i : ℕ) (m : List ℕ) → factors f env (insert i m) ≡ f.mul (get_or env i f.zero) (factors f env m)
    unfolding factors
    insert_sound i [] = refl
    insert_sound i (j ∷ m) = by (leb i j) (insert_sound i m)
      where
        by : (b : Bool) → factors f env (insert i m) ≡ f.mul (get_or env i f.zero) (factors f env m)
            → factors f env (cond b (i ∷ j ∷ m) (j ∷ insert i m)) ≡ f.mul (get_or env i f.zero) (factors f env (j ∷ m))
        by true h = refl
        by false h = ap (f.mul (get_or env j f.zero)) h ∙ mul_past (get_or env j f.zero) (get_or env i f.zero) (factors f env m)

    merge_sound : (n m : List ℕ) → factors f env (merge n m) ≡ f.mul (factors f env n) (factors f env m)
    unfolding factors
    merge_sound [] m = sym (one-mul l (factors f env m))
    merge_sound (i ∷ n) m =
        insert_sound i (merge n m) ∙ ap (f.mul (get_or env i f.zero)) (merge_sound n m) ∙ sym (l.mul_assoc (get_or env i f.zero) (factors f env n) (factors f env m))

    signed_unlike : (s r : Bool) (x y : E) → signed f env (unlike s r) (f.mul x y) ≡ f.mul (signed f env s x) (signed f env r y)
    unfolding signed
    signed_unlike true true x y = sym (neg-mul l x (f.neg y) ∙ ap f.neg (mul-neg l x y) ∙ neg-neg l (f.mul x y))
    signed_unlike true false x y = sym (neg-mul l x y)
    signed_unlike false true x y = sym (mul-neg l x y)
    signed_unlike false false x y = refl

    product_sound : (a b : Term) → of_term f env (product a b) ≡ f.mul (of_term f env a) (of_term f env b)
    unfolding of_term
    product_sound (term s n) (term r m) = ap (signed f env (unlike s r)) (merge_sound n m) ∙ signed_unlike s r (factors f env n) (factors f env m)

    flip_sound : (a : Term) → of_term f env (flip a) ≡ f.neg (of_term f env a)
    unfolding of_term signed
    flip_sound (term true m) = sym (neg-neg l (factors f env m))
    flip_sound (term false m) = refl

    opposite_sound : (a b : Term) → T (opposite a b) → f.add (of_term f env a) (of_term f env b) ≡ f.zero
    unfolding of_term signed
    opposite_sound (term true n) (term true m) h = absurd h
    opposite_sound (term true n) (term false m) h =
        ap (λ k. f.add (f.neg (factors f env k)) (factors f env m)) (same_sound n m h) ∙ l.add_comm (f.neg (factors f env m)) (factors f env m) ∙ l.add-neg (factors f env m)
    opposite_sound (term false n) (term true m) h = ap (λ k. f.add (factors f env k) (f.neg (factors f env m))) (same_sound n m h) ∙ l.add-neg (factors f env m)
    opposite_sound (term false n) (term false m) h = absurd h

    put_sound : (a : Term) (p : List Term) → terms f env (put a p) ≡ f.add (of_term f env a) (terms f env p)
    unfolding terms
    put_sound a [] = refl
    put_sound a (b ∷ p) = by (opposite a b) refl (put_sound a p)
      where
        by : (c : Bool) → opposite a b ≡ c → terms f env (put a p) ≡ f.add (of_term f env a) (terms f env p)
            → terms f env (cond c p (b ∷ put a p)) ≡ f.add (of_term f env a) (f.add (of_term f env b) (terms f env p))
        by true e h =
            sym (zero-add l (terms f env p)) ∙ ap (λ z. f.add z (terms f env p)) (sym (opposite_sound a b (subst T (sym e) tt)))
            ∙ l.add_assoc (of_term f env a) (of_term f env b) (terms f env p)
        by false e h = ap (f.add (of_term f env b)) h ∙ add_past (of_term f env b) (of_term f env a) (terms f env p)

    sum_sound : (p q : List Term) → terms f env (sum p q) ≡ f.add (terms f env p) (terms f env q)
    unfolding terms
    sum_sound [] q = sym (zero-add l (terms f env q))
    sum_sound (a ∷ p) q = put_sound a (sum p q) ∙ ap (f.add (of_term f env a)) (sum_sound p q) ∙ sym (l.add_assoc (of_term f env a) (terms f env p) (terms f env q))

    flips_sound : (p : List Term) → terms f env (flips p) ≡ f.neg (terms f env p)
    unfolding terms
    flips_sound [] = sym (neg-zero l)
    flips_sound (a ∷ p) = ap₂ f.add (flip_sound a) (flips_sound p) ∙ sym (neg-add l (of_term f env a) (terms f env p))

    scale_sound : (a : Term) (p : List Term) → terms f env (scale a p) ≡ f.mul (of_term f env a) (terms f env p)
    unfolding terms
    scale_sound a [] = sym (mul-zero l (of_term f env a))
    scale_sound a (b ∷ p) =
        put_sound (product a b) (scale a p) ∙ ap₂ f.add (product_sound a b) (scale_sound a p) ∙ sym (l.mul-add (of_term f env a) (of_term f env b) (terms f env p))

    products_sound : (p q : List Term) → terms f env (products p q) ≡ f.mul (terms f env p) (terms f env q)
    unfolding terms
    products_sound [] q = sym (zero-mul l (terms f env q))
    products_sound (a ∷ p) q =
        sum_sound (scale a q) (products p q) ∙ ap₂ f.add (scale_sound a q) (products_sound p q) ∙ sym (add-mul l (of_term f env a) (terms f env p) (terms f env q))

    norm_sound : (e : Exp) → terms f env (norm e) ≡ of f env e
    unfolding terms of_term signed factors
    norm_sound (var i) = l.add-zero (f.mul (get_or env i f.zero) f.one) ∙ l.mul-one (get_or env i f.zero)
    norm_sound O = refl
    norm_sound I = l.add-zero f.one
    norm_sound (a ⊕ b) = sum_sound (norm a) (norm b) ∙ ap₂ f.add (norm_sound a) (norm_sound b)
    norm_sound (a ⊗ b) = products_sound (norm a) (norm b) ∙ ap₂ f.mul (norm_sound a) (norm_sound b)
    norm_sound (⊝ a) = flips_sound (norm a) ∙ ap f.neg (norm_sound a)

    none_sound : (p : List Term) → T (none p) → terms f env p ≡ f.zero
    unfolding terms
    none_sound [] h = refl
    none_sound (a ∷ p) h = absurd h

    pub sound : (q : Equation) → T (holds q) → Holds f env q
    sound (a ≐ b) h = equal_of l (of f env a) (of f env b) (sym (norm_sound (a ⊕ (⊝ b))) ∙ none_sound (norm (a ⊕ (⊝ b))) h)

  -- an equation in so many variables, with `tt` for its proof

  pub ring₁ : (q : Exp → Equation) → T (holds (q (var 0))) → (a : E)
      → Holds f (a ∷ []) (q (var 0))
  ring₁ q ok a = sound (a ∷ []) (q (var 0)) ok

  pub ring₂ : (q : Exp → Exp → Equation) → T (holds (q (var 0) (var 1))) → (a b : E)
      → Holds f (a ∷ b ∷ []) (q (var 0) (var 1))
  ring₂ q ok a b = sound (a ∷ b ∷ []) (q (var 0) (var 1)) ok

  pub ring₃ : (q : Exp → Exp → Exp → Equation) → T (holds (q (var 0) (var 1) (var 2))) → (a b c : E)
      → Holds f (a ∷ b ∷ c ∷ []) (q (var 0) (var 1) (var 2))
  ring₃ q ok a b c = sound (a ∷ b ∷ c ∷ []) (q (var 0) (var 1) (var 2)) ok

  pub ring₄ : (q : Exp → Exp → Exp → Exp → Equation) → T (holds (q (var 0) (var 1) (var 2) (var 3))) → (a b c d : E)
      → Holds f (a ∷ b ∷ c ∷ d ∷ []) (q (var 0) (var 1) (var 2) (var 3))
  ring₄ q ok a b c d = sound (a ∷ b ∷ c ∷ d ∷ []) (q (var 0) (var 1) (var 2) (var 3)) ok

  pub ring₅ : (q : Exp → Exp → Exp → Exp → Exp → Equation) → T (holds (q (var 0) (var 1) (var 2) (var 3) (var 4))) → (a b c d e : E)
      → Holds f (a ∷ b ∷ c ∷ d ∷ e ∷ []) (q (var 0) (var 1) (var 2) (var 3) (var 4))
  ring₅ q ok a b c d e = sound (a ∷ b ∷ c ∷ d ∷ e ∷ []) (q (var 0) (var 1) (var 2) (var 3) (var 4)) ok

  pub ring₆ : (q : Exp → Exp → Exp → Exp → Exp → Exp → Equation) → T (holds (q (var 0) (var 1) (var 2) (var 3) (var 4) (var 5))) → (a b c d e g : E)
      → Holds f (a ∷ b ∷ c ∷ d ∷ e ∷ g ∷ []) (q (var 0) (var 1) (var 2) (var 3) (var 4) (var 5))
  ring₆ q ok a b c d e g = sound (a ∷ b ∷ c ∷ d ∷ e ∷ g ∷ []) (q (var 0) (var 1) (var 2) (var 3) (var 4) (var 5)) ok

  pub ring₇ : (q : Exp → Exp → Exp → Exp → Exp → Exp → Exp → Equation) → T (holds (q (var 0) (var 1) (var 2) (var 3) (var 4) (var 5) (var 6))) → (a b c d e g h : E)
      → Holds f (a ∷ b ∷ c ∷ d ∷ e ∷ g ∷ h ∷ []) (q (var 0) (var 1) (var 2) (var 3) (var 4) (var 5) (var 6))
  ring₇ q ok a b c d e g h = sound (a ∷ b ∷ c ∷ d ∷ e ∷ g ∷ h ∷ []) (q (var 0) (var 1) (var 2) (var 3) (var 4) (var 5) (var 6)) ok
