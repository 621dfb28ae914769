use Rattle.std.proofs.Common.{◌≡◌, ◌<◌, length, take, drop, sym, ap, ◌∙◌, ap₂, arith, length-take-le}
use Rattle.std.proofs.lemmas.List.{take-append-drop}
use Rattle.codes.specs.steps.Elimination.{entries}
use Rattle.codes.proofs.Cells.{place_read, place_at, place-next, front}
use Rattle.codes.proofs.error_values.normalize.Goals as goal

pub loop-entry-preserved : goal.loop-entry-preserved
loop-entry-preserved g c =
    let F = g.F.Field in
    let f = F.field in
    let k = c.loop-entry.entry-index in
    let xs = c.loop-entry.entry-items in
    let old = entries f F.mean (take c.args.last c.args.vector.now) in
    let inside : k < length xs = omega (arith, c.loop-entry.auto, c.loop-entry-test.true) in
    place-next f F.mean xs k c.mul.result (λ j. f.mul (old j) (F.mean c.neg-factor.result)) old inside c.loop-entry.invariant
    (c.mul.ensures ∙ ap (λ z. f.mul z (F.mean c.neg-factor.result))
    (place_at f F.mean xs k c.entry-item.result inside ∙ c.loop-entry.invariant.1 k (omega arith)))

pub returns : goal.returns
returns g c k h =
    let F = g.F.Field in
    let f = F.field in
    let xs = c.args.vector.now in
    let old = take c.args.last xs in
    let rest = drop c.args.last xs in
    let long : length old ≡ c.args.last = length-take-le c.args.last xs (omega (arith, c.requires)) in
    let now : k < length c.loop-entry.entry-items = omega (arith, long, c.loop-entry.auto) in
    front f F.mean c.loop-entry.entry-items rest k now ∙ c.loop-entry.invariant.0 k (omega (arith, long, c.loop-entry.auto, c.loop-entry-test.false))
    ∙ ap₂ f.mul (sym (front f F.mean old rest k (omega (arith, long))) ∙ ap (λ ys. entries f F.mean ys k) (take-append-drop c.args.last xs))
    (c.neg-factor.ensures ∙ ap f.neg (c.inv.ensures
    ∙ ap f.inv (place_read f F.mean xs c.args.last c.index-vector-last.result c.requires c.index-vector-last.is)))
