use Rattle.std.proofs.Common.{◌<◌, length, sym, ap, ◌∙◌, ap₂, add-one, arith}
use Rattle.gf.specs.Theory.{pow}
use Rattle.codes.specs.steps.Elimination.{entries}
use Rattle.codes.proofs.Cells.{place_at, place-next}
use Rattle.codes.proofs.errors.take_off.Goals as goal

pub loop-syndrome-preserved : goal.loop-syndrome-preserved
loop-syndrome-preserved g c =
    let F = g.F.Field in
    let f = F.field in
    let i = c.loop-syndrome.syndrome-index in
    let x = F.mean c.args.point in
    let y = F.mean c.args.value in
    let xs = c.loop-syndrome.syndromes in
    let old = entries f F.mean c.args.syndromes.now in
    let inside : i < length xs = omega (arith, c.loop-syndrome.auto, c.loop-syndrome-test.true) in
    let next =
    place-next f F.mean xs i c.add.result (λ j. f.add (old j) (f.neg (f.mul y (pow f x j)))) old inside (c.loop-syndrome.invariant.1, c.loop-syndrome.invariant.2)
    (c.add.ensures ∙ ap₂ f.add (place_at f F.mean xs i c.syndrome-item.result inside ∙ c.loop-syndrome.invariant.2 i (omega arith))
    (c.neg.ensures ∙ ap f.neg c.loop-syndrome.invariant.0)) in (
      c.mul-term.ensures ∙ ap (λ z. f.mul z x) c.loop-syndrome.invariant.0 ∙ g.met.F.Field.laws.mul_assoc y (pow f x i) x
          ∙ ap (f.mul y) (g.met.F.Field.laws.mul_comm (pow f x i) x ∙ ap (pow f x) (sym (add-one i))),
      next.0,
      next.1,
    )
