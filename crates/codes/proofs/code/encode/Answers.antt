use Rattle.std.proofs.Common.{◌≡◌, map, length, ap, ◌∙◌, rules}
use Rattle.codes.specs.Polynomials.{zeros}
use Rattle.codes.specs.Codewords.{code_shape}
use Rattle.codes.proofs.Shapes.{admitted_work}
use Rattle.codes.proofs.code.encode.Goals as goal

pub returns : goal.returns
returns g c =
    let F = g.F.Field in
    let f = F.field in
    let sized = admitted_work f F.mean (code_shape f (length c.args.word.now) c.args.checks) c.args.work.now c.if-not-is_admitted.ensures in
    let cleared : map F.mean c.clear.new.symbols ≡ zeros f 512 = c.clear.ensures ∙ ap (zeros f) (c.fill_checks.auto.work ∙ sized) in
    search rules
