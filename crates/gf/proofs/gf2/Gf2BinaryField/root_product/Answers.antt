use Rattle.std.proofs.Common.{◌%◌}
use Rattle.gf.specs.laws.Numbers.{root-power-one}
use Rattle.gf.proofs.gf2.Gf2BinaryField.root_product.Goals as goal

pub returns : goal.returns
returns c = root-power-one c.args.self.0 (c.args._exponent % 16)
