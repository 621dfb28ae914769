use Rattle.std.proofs.Common.{◌≡◌, ◌+◌, ◌-◌, length, ap, ◌∙◌, arith, length-set}
use Rattle.codes.specs.Codewords.{generator}
use Rattle.codes.proofs.Cells.{place_set, place_other, place-zeros}
use Rattle.codes.proofs.Generating.{generated, generator-start}
use Rattle.codes.proofs.generator.write_generator.Goals as goal

pub loop-degree-init : goal.loop-degree-init
loop-degree-init g c =
    let F = g.F.Field in
    let f = F.field in
    let xs = c.clear.new.symbols in
    generator-start f _ (place_set f F.mean xs 0 c.one.result (omega arith) ∙ c.one.ensures)
    (λ j d. place_other f F.mean xs 0 j c.one.result d ∙ place-zeros f F.mean xs (length c.args.polynomial.now) c.clear.ensures j)

pub returns : goal.returns
returns g c =
    let F = g.F.Field in
    let r = c.loop-degree.degree in
    let sized = length-set c.clear.new.symbols 0 c.one.result in
    let last : r ≡ length c.args.polynomial.now - 1 = omega (arith, sized) in
    let long : length c.loop-degree.polynomial ≡ r + 1 = omega (arith, sized) in
    generated g.met.F.Field.laws F.mean c.loop-degree.polynomial r long c.loop-degree.invariant ∙ ap (generator F.field) last
