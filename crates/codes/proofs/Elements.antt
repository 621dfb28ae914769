-- What the laws of a field say of zero, one, negatives and tests for equality.
use Rattle.std.proofs.Common.{◌≡◌, sym, ap, ◌∙◌, ap₂}
use Rattle.std.specs.Cmp.{both_ways}
use Rattle.gf.specs.Theory.{Operations, Laws}

module _ {E : Type 0} {f : Operations E} (l : Laws f) where
  pub zero-add : (a : E) → f.add f.zero a ≡ a
  zero-add a = l.add_comm f.zero a ∙ l.add-zero a

  -- what is its own double is zero
  own_double : (a : E) → f.add a a ≡ a → a ≡ f.zero
  own_double a e =
      sym (l.add-zero a) ∙ ap (f.add a) (sym (l.add-neg a)) ∙ sym (l.add_assoc a a (f.neg a))
      ∙ ap (λ s. f.add s (f.neg a)) e ∙ l.add-neg a

  pub mul-zero : (a : E) → f.mul a f.zero ≡ f.zero
  mul-zero a =
      own_double (f.mul a f.zero) (sym (l.mul-add a f.zero f.zero) ∙ ap (f.mul a) (l.add-zero f.zero))

  pub zero-mul : (a : E) → f.mul f.zero a ≡ f.zero
  zero-mul a = l.mul_comm f.zero a ∙ mul-zero a

  pub neg-zero : f.neg f.zero ≡ f.zero
  neg-zero = sym (zero-add (f.neg f.zero)) ∙ l.add-neg f.zero

  -- the first coefficient of a product with a polynomial that begins with one
  pub lead : (c : E) → c ≡ f.add (f.add (f.mul c f.one) f.zero) f.zero
  lead c = sym (l.add-zero _ ∙ l.add-zero _ ∙ l.mul-one c)

  -- what adds up to zero with a is the negative of a
  neg_of : (a b : E) → f.add a b ≡ f.zero → b ≡ f.neg a
  neg_of a b e =
      sym (zero-add b) ∙ ap (λ s. f.add s b) (sym (l.add-neg a) ∙ l.add_comm a (f.neg a))
      ∙ l.add_assoc (f.neg a) a b ∙ ap (f.add (f.neg a)) e ∙ l.add-zero (f.neg a)

  -- (a + b) + (c + d) = (a + c) + (b + d)
  pub add_swap : (a b c d : E) → f.add (f.add a b) (f.add c d) ≡ f.add (f.add a c) (f.add b d)
  add_swap a b c d =
      l.add_assoc a b (f.add c d)
      ∙ ap (f.add a) (sym (l.add_assoc b c d) ∙ ap (λ s. f.add s d) (l.add_comm b c) ∙ l.add_assoc c b d)
      ∙ sym (l.add_assoc a c (f.add b d))

  pub neg-add : (a b : E) → f.neg (f.add a b) ≡ f.add (f.neg a) (f.neg b)
  neg-add a b =
      sym (neg_of (f.add a b) (f.add (f.neg a) (f.neg b))
      (add_swap a b (f.neg a) (f.neg b) ∙ ap₂ f.add (l.add-neg a) (l.add-neg b) ∙ l.add-zero f.zero))

  pub add-mul : (a b c : E) → f.mul (f.add a b) c ≡ f.add (f.mul a c) (f.mul b c)
  add-mul a b c = l.mul_comm (f.add a b) c ∙ l.mul-add c a b ∙ ap₂ f.add (l.mul_comm c a) (l.mul_comm c b)

  pub one-mul : (a : E) → f.mul f.one a ≡ a
  one-mul a = l.mul_comm f.one a ∙ l.mul-one a

  pub neg-neg : (a : E) → f.neg (f.neg a) ≡ a
  neg-neg a = sym (neg_of (f.neg a) a (l.add_comm (f.neg a) a ∙ l.add-neg a))

  pub neg-mul : (a b : E) → f.mul (f.neg a) b ≡ f.neg (f.mul a b)
  neg-mul a b = neg_of (f.mul a b) (f.mul (f.neg a) b) (sym (add-mul a (f.neg a) b) ∙ ap (λ z. f.mul z b) (l.add-neg a) ∙ zero-mul b)

  pub mul-neg : (a b : E) → f.mul a (f.neg b) ≡ f.neg (f.mul a b)
  mul-neg a b = l.mul_comm a (f.neg b) ∙ neg-mul b a ∙ ap f.neg (l.mul_comm b a)

  -- a difference of zero
  pub equal_of : (a b : E) → f.add a (f.neg b) ≡ f.zero → a ≡ b
  equal_of a b e = sym (neg-neg a) ∙ ap f.neg (sym (neg_of a (f.neg b) e)) ∙ neg-neg b

  -- tests of two equations that follow from each other
  pub equal_agree : (a b c d : E) → (a ≡ b → c ≡ d) → (c ≡ d → a ≡ b) → f.equal a b ≡ f.equal c d
  equal_agree a b c d g h =
      both_ways (f.equal a b) (f.equal c d) (λ e. l.equal_yes c d (g (l.equal_no a b e))) (λ e. l.equal_yes a b (h (l.equal_no c d e)))
