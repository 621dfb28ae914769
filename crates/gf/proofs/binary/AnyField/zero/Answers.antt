use Rattle.std.proofs.Common.{◌∙◌}
use Rattle.gf.specs.laws.Numbers.{bits-zero}
use Rattle.gf.proofs.binary.AnyField.zero.Goals as goal

pub returns : goal.returns
returns g c = c.from_byte.ensures ∙ bits-zero g.B.BinaryField.modulus.degree
