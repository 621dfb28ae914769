-- The product with as many roots as the loop has turns behind it.
use Rattle.std.proofs.Common.{◌≡◌}
use Rattle.gf.specs.Theory.{pow}
use Rattle.gf.proofs.field.Field.times_root_power.Given as goal

abbrev pub invariant-loop : goal.invariant-loop
invariant-loop g l =
    g.Self.Field.mean l.product ≡ g.Self.Field.field.mul (g.Self.Field.mean l.fn.self) (pow g.Self.Field.field g.Self.Field.field.root l.counter)
