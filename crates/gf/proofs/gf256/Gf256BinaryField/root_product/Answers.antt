use Rattle.std.proofs.Common.{◌%◌, ap, ◌∙◌, arith}
use Rattle.gf.specs.Theory.{pow}
use Rattle.gf.specs.Bits.{bits}
use Rattle.gf.specs.Fields.{low256, gf256}
use Rattle.gf.specs.laws.Computed.{root_products_at}
use Rattle.gf.specs.laws.Powers.{root-product}
use Rattle.gf.specs.laws.FieldLaws.{tables256, sound256, root_products256}
use Rattle.gf.proofs.gf256.Gf256BinaryField.root_product.Goals as goal

pub returns : goal.returns
unfolding root_products256
returns c =
    let i = c.args.exponent % 16 in
    ap (bits 8) (root_products_at 8 tables256.exps tables256.logs i c.element.result (omega arith) c.element.ensures.below)
    ∙ root-product 8 low256 254 tables256 sound256 c.element.result i c.element.ensures.below (omega arith)
    ∙ ap (λ u. gf256.mul u (pow gf256 gf256.root i)) c.element.ensures.value
