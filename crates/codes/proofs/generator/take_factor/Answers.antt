use Rattle.std.proofs.Common.{◌≡◌, ℕ, ◌+◌, ◌<◌, length, take, ap, ◌∙◌, ap₂, mod-eq_of_lt, length-take-le, arith}
use Rattle.gf.specs.Theory.{pow}
use Rattle.codes.specs.steps.Elimination.{entries}
use Rattle.codes.proofs.Cells.{place_set, place_other, place_at}
use Rattle.codes.proofs.Generating.{factor_begun, factor_more, factor_end, factor_whole}
use Rattle.codes.proofs.generator.take_factor.Goals as goal

pub loop-coefficient-init : goal.loop-coefficient-init
loop-coefficient-init g c =
    factor_begun g.met.F.Field.laws g.F.Field.mean c.args.polynomial.now c.args.degree (g.F.Field.mean c.zero-before.result) c.requires.sizes.0
    c.zero-before.ensures c.requires.before

pub loop-coefficient-preserved : goal.loop-coefficient-preserved
loop-coefficient-preserved g c =
    let F = g.F.Field in
    let f = F.field in
    let k = c.loop-coefficient.coefficient-index in
    let xs = c.loop-coefficient.coefficient-items in
    let inside : k < length xs = omega (arith, c.loop-coefficient.auto, c.loop-coefficient-test.true) in
    let here = place_at f F.mean xs k c.coefficient-item.result inside in
    factor_more g.met.F.Field.laws c.args.degree k (entries f F.mean xs) _ (F.mean c.loop-coefficient.before) _ c.loop-coefficient.invariant
    (place_set f F.mean xs k c.add.result inside ∙ c.add.ensures
    ∙ ap₂ f.add here (c.neg.ensures
    ∙ ap f.neg (c.times_root_power-product.ensures
    ∙ ap (λ (n : ℕ). f.mul (F.mean c.loop-coefficient.before) (pow f f.root n)) (mod-eq_of_lt c.requires.sizes.1))))
    (λ j d. place_other f F.mean xs k j c.add.result d) here

pub returns : goal.returns
returns g c =
    let F = g.F.Field in
    let f = F.field in
    let r = c.args.degree in
    let ys = c.loop-coefficient.coefficient-items in
    let fits : length (take (r + 2) c.args.polynomial.now) ≡ r + 2 = length-take-le (r + 2) c.args.polynomial.now (omega (arith, c.requires.sizes.0)) in
    let long : length ys ≡ r + 2 = omega (arith, fits, c.loop-coefficient.auto) in
    factor_whole g.met.F.Field.laws F.mean ys c.args.polynomial.now r long c.requires.before
    (factor_end g.met.F.Field.laws r c.loop-coefficient.coefficient-index (entries f F.mean ys) (F.mean c.loop-coefficient.before)
    (omega (arith, long, c.loop-coefficient.auto, c.loop-coefficient-test.false)) c.loop-coefficient.invariant)
