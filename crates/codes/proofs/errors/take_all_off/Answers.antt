use Rattle.std.proofs.Common.{map, length, ◌∙◌, ap₂, arith}
use lib.ListN.{length-map}
use Rattle.std.proofs.lemmas.List.{length_push}
use Rattle.std.proofs.lemmas.Slice.Zip.{zip_turn}
use Rattle.gf.specs.Theory.{pow}
use Rattle.codes.specs.steps.Elimination.{entries}
use Rattle.codes.proofs.Registers.{read}
use Rattle.codes.proofs.Corrections.{rest_more}
use Rattle.codes.proofs.errors.take_all_off.Goals as goal

pub loop-point-preserved : goal.loop-point-preserved
loop-point-preserved g c =
    let F = g.F.Field in
    let f = F.field in
    let ys = c.args.values.now in
    let xs = c.args.points.now in
    let t = zip_turn xs ys c.loop-point.yielded c.into_iter-point-iterator.result c.loop-point.point-iterator c.next.new.self c.next.result (cc) (cc) c.loop-point.yielded_by (c.in-Some.point, c.in-Some.value) c.in-Some.is c.next.ensures.steps in
    let k = length c.loop-point.yielded in
    let more = length_push c.loop-point.yielded (c.in-Some.point, c.in-Some.value) in
    rw more
    (rest_more g.met.F.Field.laws (length c.args.syndromes.now) (map F.mean ys) (map F.mean xs) k
    (entries f F.mean c.args.syndromes.now) (entries f F.mean c.loop-point.syndromes) (entries f F.mean c.take_off.new.syndromes)
    (omega (arith, length-map ys F.mean, t.1)) (omega (arith, length-map xs F.mean, t.0)) c.loop-point.invariant
    (λ i h. c.take_off.ensures i (omega (arith, c.loop-point.auto))
    ∙ ap₂ (λ y x. f.add (entries f F.mean c.loop-point.syndromes i) (f.neg (f.mul y (pow f x i))))
    (read f F.mean ys k c.in-Some.value.now t.1 (t.3 c.in-Some.value.now))
    (read f F.mean xs k c.in-Some.point.now t.0 (t.2 c.in-Some.point.now))))
