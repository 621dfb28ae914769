use Rattle.std.proofs.Common.{◌%◌, ap, ◌∙◌, arith}
use Rattle.gf.specs.Theory.{pow}
use Rattle.gf.specs.Fields.{low16, gf16}
use Rattle.gf.specs.laws.Powers.{root-product, log-le}
use Rattle.gf.specs.laws.FieldLaws.{tables16, sound16}
use Rattle.gf.proofs.gf16.Gf16BinaryField.root_product.Goals as goal

pub bounds-a : goal.bounds-a
unfolding tables16
bounds-a c = omega (arith, log-le 4 low16 14 tables16 sound16 c.element.result c.element.ensures.below)

pub returns : goal.returns
unfolding tables16
returns c =
    root-product 4 low16 14 tables16 sound16 c.element.result (c.args.exponent % 16) c.element.ensures.below (omega arith)
    ∙ ap (λ u. gf16.mul u (pow gf16 gf16.root (c.args.exponent % 16))) c.element.ensures.value
