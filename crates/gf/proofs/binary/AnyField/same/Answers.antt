use Rattle.std.proofs.Common.{◌∙◌, ap₂}
use Rattle.gf.specs.Bits.{equal}
use Rattle.gf.specs.laws.Numbers.{bits-equal_whole}
use Rattle.gf.proofs.binary.AnyField.same.Goals as goal

pub returns : goal.returns
returns g c =
    bits-equal_whole g.B.BinaryField.modulus.degree c.element.result c.element-2.result c.element.ensures.below c.element-2.ensures.below
    ∙ ap₂ (equal g.B.BinaryField.modulus.degree) c.element.ensures.value c.element-2.ensures.value
