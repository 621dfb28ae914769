-- The integers modulo 13 keep the laws of a field: each law is tried at all of them.
use Rattle.std.specs.Prelude.{◌≡◌, ℕ, Bool, true, false, not, T, ◌||◌, nat_eq}
use Rattle.std.proofs.Common.{ap, subst, eq-eqb, mod-eq_of_lt, T_not}
use Rattle.std.proofs.Math.Dec.{eqb→eq}
use Rattle.std.specs.Bool.{passes}
use native.Mathlib.Fin
use Rattle.gf.specs.Theory.{Laws, pow}
use Rattle.gf.specs.laws.Tests.{below, below_at}
use Rattle.everyword.specs.Modulo13.{Residue, residue, modulo13}

-- the test passes at each residue
unfoldable each : (Residue → Bool) → Bool
each test = below (λ n. test (residue n)) 13

each_at : (test : Residue → Bool) → T (each test) → (x : Residue) → T (test x)
unfolding each
each_at test t x =
    subst (λ y. T (test y)) (Fin.val_path {i = residue x.0} {j = x} (mod-eq_of_lt x.1)) (below_at (λ n. test (residue n)) 13 t x.0 x.1)

equal_no : (x y : Residue) → T (modulo13.equal x y) → x ≡ y
equal_no x y t = Fin.val_path {i = x} {j = y} (eqb→eq x.0 y.0 t)

equal_yes : (x y : Residue) → x ≡ y → modulo13.equal x y ≡ true
equal_yes x y e = eq-eqb x.0 y.0 (ap (λ (z : Residue). z.0) e)

-- what agrees at each residue agrees
one : (f g : Residue → Residue) → T (each (λ x. modulo13.equal (f x) (g x))) → (x : Residue) → f x ≡ g x
one f g t x = equal_no (f x) (g x) (each_at (λ x. modulo13.equal (f x) (g x)) t x)

two : (f g : Residue → Residue → Residue) → T (each (λ x. each (λ y. modulo13.equal (f x y) (g x y)))) → (x y : Residue) → f x y ≡ g x y
two f g t x = one (f x) (g x) (each_at (λ x. each (λ y. modulo13.equal (f x y) (g x y))) t x)

three : (f g : Residue → Residue → Residue → Residue) → T (each (λ x. each (λ y. each (λ z. modulo13.equal (f x y z) (g x y z)))))
    → (x y z : Residue) → f x y z ≡ g x y z
three f g t x = two (f x) (g x) (each_at (λ x. each (λ y. each (λ z. modulo13.equal (f x y z) (g x y z)))) t x)

-- where one of two tests passes and the first does not, the second does
other : (a b : Bool) → (T a → ⊥) → T (a || b) → T b
other true b fails t = absurd (fails tt)
other false b fails t = t

-- the test that two powers of the root differ where their exponents do
abbrev told_apart : ℕ → ℕ → Bool
told_apart i j = not (modulo13.equal (pow modulo13 modulo13.root i) (pow modulo13 modulo13.root j)) || nat_eq i j

pub laws13 : Laws modulo13
unfolding each below
laws13 = record {
  add_assoc = three (λ x y z. modulo13.add (modulo13.add x y) z) (λ x y z. modulo13.add x (modulo13.add y z)) tt;
  add_comm = two (λ x y. modulo13.add x y) (λ x y. modulo13.add y x) tt;
  add-zero = one (λ x. modulo13.add x modulo13.zero) (λ x. x) tt;
  add-neg = one (λ x. modulo13.add x (modulo13.neg x)) (λ x. modulo13.zero) tt;
  mul_assoc = three (λ x y z. modulo13.mul (modulo13.mul x y) z) (λ x y z. modulo13.mul x (modulo13.mul y z)) tt;
  mul_comm = two (λ x y. modulo13.mul x y) (λ x y. modulo13.mul y x) tt;
  mul-one = one (λ x. modulo13.mul x modulo13.one) (λ x. x) tt;
  mul-add = three (λ x y z. modulo13.mul x (modulo13.add y z)) (λ x y z. modulo13.add (modulo13.mul x y) (modulo13.mul x z)) tt;
  one-zero = λ e. subst (λ (x : Residue). T (nat_eq x.0 1)) e tt;
  mul-inv = λ x ne.
      equal_no _ _
      (other (modulo13.equal x modulo13.zero) (modulo13.equal (modulo13.mul x (modulo13.inv x)) modulo13.one)
      (λ t. ne (equal_no x modulo13.zero t))
      (each_at (λ x. modulo13.equal x modulo13.zero || modulo13.equal (modulo13.mul x (modulo13.inv x)) modulo13.one) tt x));
  inv-zero = equal_no (modulo13.inv modulo13.zero) modulo13.zero tt;
  equal_yes = equal_yes;
  equal_no = λ x y e. equal_no x y (passes (modulo13.equal x y) e);
  powers-differ = λ i j hi hj e.
      eqb→eq i j
      (other (not (modulo13.equal (pow modulo13 modulo13.root i) (pow modulo13 modulo13.root j))) (nat_eq i j)
      (λ t. T_not _ t (passes _ (equal_yes (pow modulo13 modulo13.root i) (pow modulo13 modulo13.root j) e)))
      (below_at (told_apart i) 12 (below_at (λ i. below (told_apart i) 12) 12 tt i hi) j hj));
}
