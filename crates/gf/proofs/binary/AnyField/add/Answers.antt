use Rattle.std.proofs.Common.{◌∙◌, ap₂}
use Rattle.gf.specs.Bits.{plus}
use Rattle.gf.specs.laws.Numbers.{bits-xor}
use Rattle.gf.proofs.binary.AnyField.add.Goals as goal

pub returns : goal.returns
returns g c =
    c.from_byte.ensures ∙ bits-xor g.B.BinaryField.modulus.degree c.byte.result c.byte-2.result
    ∙ ap₂ (plus g.B.BinaryField.modulus.degree) c.byte.ensures c.byte-2.ensures
