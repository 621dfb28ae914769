-- What a field with a marked root is: its operations, and the laws that they keep.
use Rattle.std.specs.Prelude.{◌≡◌, ℕ, zero, suc, ◌<◌, Bool, true, ◌≢◌}

-- x to the power i, over any product
abbrev pub power : {E : Type 0} → E → (E → E → E) → E → ℕ → E
power one mul x zero = one
power one mul x (suc i) = mul x (power one mul x i)

-- the operations of a field over the elements E
pub record Operations (E : Type 0) : Type 0 where
  pub zero : E
  pub one : E
  pub add : E → E → E
  pub neg : E → E
  pub mul : E → E → E
  pub inv : E → E
  pub equal : E → E → Bool
  -- the marked element, and how many of its powers are known to be different
  pub root : E
  pub reach : ℕ

-- x to the power i
abbrev pub pow : {E : Type 0} → Operations E → E → ℕ → E
pow f x i = power f.one f.mul x i

-- all the laws of a field
pub record Laws {E : Type 0} (f : Operations E) : Type 0 where
  pub add_assoc : (x y z : E) → f.add (f.add x y) z ≡ f.add x (f.add y z)
  pub add_comm : (x y : E) → f.add x y ≡ f.add y x
  pub add-zero : (x : E) → f.add x f.zero ≡ x
  pub add-neg : (x : E) → f.add x (f.neg x) ≡ f.zero
  pub mul_assoc : (x y z : E) → f.mul (f.mul x y) z ≡ f.mul x (f.mul y z)
  pub mul_comm : (x y : E) → f.mul x y ≡ f.mul y x
  pub mul-one : (x : E) → f.mul x f.one ≡ x
  pub mul-add : (x y z : E) → f.mul x (f.add y z) ≡ f.add (f.mul x y) (f.mul x z)
  pub one-zero : f.one ≡ f.zero → ⊥
  pub mul-inv : (x : E) → (x ≢ f.zero) → f.mul x (f.inv x) ≡ f.one
  pub inv-zero : f.inv f.zero ≡ f.zero
  -- the test for equality says yes exactly for equal elements
  pub equal_yes : (x y : E) → x ≡ y → f.equal x y ≡ true
  pub equal_no : (x y : E) → f.equal x y ≡ true → x ≡ y
  -- the powers of the root below its reach are pairwise different
  pub powers-differ : (i j : ℕ) → i < f.reach → j < f.reach → pow f f.root i ≡ pow f f.root j → i ≡ j
