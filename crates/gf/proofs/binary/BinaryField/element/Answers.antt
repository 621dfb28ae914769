use Rattle.std.proofs.Common.{◌%◌, ◌∙◌, ap}
use Rattle.gf.specs.Bits.{bits}
use Rattle.gf.specs.laws.Numbers.{bits-mod}
use Rattle.gf.proofs.binary.BinaryField.element.Goals as goal

pub returns-clause-value : goal.returns-clause-value
returns-clause-value g c =
    ap (λ m. bits g.Self.BinaryField.modulus.degree (c.byte.result % m)) c.order.ensures.rows
    ∙ bits-mod g.Self.BinaryField.modulus.degree c.byte.result ∙ c.byte.ensures
