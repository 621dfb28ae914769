use Rattle.std.proofs.Common.{arith}
use Rattle.gf.specs.laws.Powers.{product, log-le}
use Rattle.gf.proofs.tabled.AnyBinaryProduct.product.Goals as goal

pub bounds-tables-a : goal.bounds-tables-a
bounds-tables-a g c =
    let m = g.T.BinaryField.modulus in
    let tables = g.T.TabledField.tables in
    let sound = g.met.T.TabledField.sound in
    let a = log-le m.degree m.low m.last tables sound c.element.result c.element.ensures.below in
    let b = log-le m.degree m.low m.last tables sound c.element-2.result c.element-2.ensures.below in
    omega (arith, rw (← c.tables-tables.ensures.exponents) at a, rw (← c.tables-tables.ensures.exponents) at b)

pub returns : goal.returns
returns g c =
    let m = g.T.BinaryField.modulus in
    let a = c.element in
    let b = c.element-2 in
    let is = product m.degree m.low m.last g.T.TabledField.tables g.met.T.TabledField.sound a.result b.result a.ensures.below b.ensures.below in
    cc
