use Rattle.gf.specs.laws.Powers.{inverted}
use Rattle.gf.proofs.tabled.AnyBinaryProduct.inverse.Goals as goal

pub returns : goal.returns
returns g c =
    let m = g.T.BinaryField.modulus in
    let is = inverted m.degree m.low m.last g.T.TabledField.tables g.met.T.TabledField.sound c.element.result c.element.ensures.below in
    cc
