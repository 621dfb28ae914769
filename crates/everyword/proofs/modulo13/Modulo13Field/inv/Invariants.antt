-- The power with as many factors as the loop has turns behind it.
use Rattle.std.proofs.Common.{◌≡◌}
use Rattle.gf.specs.Theory.{pow}
use Rattle.everyword.specs.Modulo13.{residue, modulo13}
use Rattle.everyword.proofs.modulo13.Modulo13Field.inv.Given as goal

abbrev pub invariant-loop : goal.invariant-loop
invariant-loop l = residue l.power.0 ≡ pow modulo13 (residue l.self.0) l.counter
