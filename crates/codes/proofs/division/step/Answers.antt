use Rattle.std.proofs.Common.{◌≡◌, ℕ, ◌+◌, ◌-◌, ◌<◌, map, length, get_or, set, sym, ap, ◌∙◌, ap₂, arith}
use lib.ListN.{length-map}
use lib.Seq.{map-set}
use Rattle.codes.specs.steps.Dividing.{stepped}
use Rattle.codes.proofs.Registers.{advance, ahead, length-stepped, next_written, stepped_at, stepped_last, read, whole}
use Rattle.codes.proofs.division.step.Goals as goal

pub loop-j-preserved : goal.loop-j-preserved
loop-j-preserved g c =
    let F = g.F.Field in
    let f = F.field in
    let j = c.loop-j.j in
    let now = c.loop-j.rest in
    let old = map F.mean c.args.rest.now in
    let tail = map F.mean c.args.tail.now in
    let new = stepped f tail old (F.mean c.args.symbol) in
    let long : length old ≡ length tail = omega (arith, length-map c.args.rest.now F.mean, length-map c.args.tail.now F.mean, c.requires.0) in
    let before : j + 1 < length tail = omega (arith, length-map c.args.tail.now F.mean, c.loop-j-test.true, c.requires.0) in
    let sized = length-stepped f tail old (F.mean c.args.symbol) long (omega arith) in
    let behind =
    read f F.mean now (j + 1) c.index-rest-j.result (omega (arith, c.loop-j.auto.rest, length-map c.args.tail.now F.mean, c.requires.0)) c.index-rest-j.is
    ∙ ap (λ xs. get_or xs (j + 1) f.zero) c.loop-j.invariant ∙ ahead f.zero new old j 1 (omega arith) (omega arith) in
    let first = read f F.mean c.args.rest.now 0 c.index-rest-0.result (omega (arith, c.requires)) c.index-rest-0.is in
    let lower = read f F.mean c.args.tail.now j c.index-tail-j.result (omega (arith, length-map c.args.tail.now F.mean)) c.index-tail-j.is in
    next_written f F.mean now new old j c.add.result c.add.result (omega arith) (omega (arith, length-map c.args.rest.now F.mean)) (omega arith) c.loop-j.invariant
    (λ here. c.add.ensures ∙ ap₂ f.add behind (c.neg.ensures ∙ ap f.neg (c.mul.ensures ∙ ap₂ f.mul first lower))
    ∙ sym (stepped_at f tail old (F.mean c.args.symbol) j long before))

pub returns : goal.returns
returns g c =
    let F = g.F.Field in
    let f = F.field in
    let j = c.loop-j.j in
    let last = length c.args.rest.now - 1 in
    let at_last : last ≡ j = omega (arith, c.loop-j.auto.j-end, c.loop-j-test.false) in
    let old = map F.mean c.args.rest.now in
    let tail = map F.mean c.args.tail.now in
    let new = stepped f tail old (F.mean c.args.symbol) in
    let long : length old ≡ length tail = omega (arith, length-map c.args.rest.now F.mean, length-map c.args.tail.now F.mean, c.requires.0) in
    let end : j + 1 ≡ length tail = omega (arith, length-map c.args.tail.now F.mean, at_last, c.requires) in
    let sized = length-stepped f tail old (F.mean c.args.symbol) long (omega arith) in
    let first = read f F.mean c.args.rest.now 0 c.index-rest-0.result (omega (arith, c.requires)) c.index-rest-0.is in
    let lower =
    read f F.mean c.args.tail.now last c.index-tail-last.result (omega (arith, length-map c.args.tail.now F.mean)) c.index-tail-last.is
    ∙ ap (λ (k : ℕ). get_or tail k f.zero) at_last in
    map-set F.mean c.loop-j.rest last c.add-2.result
    ∙ ap (λ (k : ℕ). set (map F.mean c.loop-j.rest) k (F.mean c.add-2.result)) at_last
    ∙ ap₂ (λ xs x. set xs j x) c.loop-j.invariant
    (c.add-2.ensures ∙ ap (f.add (F.mean c.args.symbol)) (c.neg-2.ensures ∙ ap f.neg (c.mul-2.ensures ∙ ap₂ f.mul first lower))
    ∙ sym (stepped_last f tail old (F.mean c.args.symbol) j long end))
    ∙ advance f.zero new old j (omega arith) (omega arith)
    ∙ whole f.zero new old (j + 1) (omega arith) (omega arith)
