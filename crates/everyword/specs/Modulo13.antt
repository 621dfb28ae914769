-- The field of the integers modulo 13, with 2 for the root.
use Rattle.std.specs.Prelude.{ℕ, ◌+◌, ◌-◌, ◌*◌, ◌%◌, nat_eq}
use Rattle.std.proofs.Common.{mod-lt, lit<}
use Prim.Native.Nat.{Fin}
use Rattle.gf.specs.Theory.{Operations, power}

-- the numbers below 13
abbrev pub Residue : Type 0
Residue = Fin 13

-- what a number leaves when divided by 13
abbrev pub residue : ℕ → Residue
residue n = (n % 13, mod-lt n (lit< tt))

abbrev pub product : Residue → Residue → Residue
product x y = residue (x.0 * y.0)

-- The twelfth power of every element but zero is 1, so that the eleventh is the inverse, and it takes zero to zero.
abbrev pub modulo13 : Operations Residue
modulo13 = record {
  zero = residue 0;
  one = residue 1;
  add = λ x y. residue (x.0 + y.0);
  neg = λ x. residue (13 - x.0);
  mul = product;
  inv = λ x. power (residue 1) product x 11;
  equal = λ x y. nat_eq x.0 y.0;
  root = residue 2;
  reach = 12;
}
