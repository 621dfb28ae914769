use Rattle.gf.specs.laws.Numbers.{bit-inverse}
use Rattle.gf.proofs.gf2.Gf2BinaryProduct.inverse.Goals as goal

pub returns : goal.returns
returns c = bit-inverse c.args.self.0
