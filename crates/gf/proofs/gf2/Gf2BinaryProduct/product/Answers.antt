use Rattle.gf.specs.laws.Numbers.{bits-and}
use Rattle.gf.proofs.gf2.Gf2BinaryProduct.product.Goals as goal

pub returns : goal.returns
returns c = bits-and c.args.self.0 c.args.other.0
