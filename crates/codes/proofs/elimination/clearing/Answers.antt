use Rattle.std.proofs.Common.{ap, ◌∙◌}
use Rattle.codes.proofs.Linear.{cleared}
use Rattle.codes.proofs.elimination.clearing.Goals as goal

pub returns : goal.returns
returns g c =
    let F = g.F.Field in
    let f = F.field in
    let a = F.mean c.args.a in
    let b = F.mean c.args.b in
    ap (λ x. f.add a (f.mul x b)) (c.neg.ensures ∙ ap f.neg (c.mul.ensures ∙ ap (f.mul a) c.inv.ensures))
    ∙ cleared g.met.F.Field.laws a b c.requires
