use Rattle.std.proofs.Common.{ℕ, ◌<◌, map, length, get_or, sym, ap, ◌∙◌, ap₂, arith, rules}
use lib.ListN.{length-map}
use Rattle.std.proofs.lemmas.List.{length_push, get_or-map}
use Rattle.std.proofs.lemmas.Slice.Zip.{zip_turn}
use Rattle.codes.proofs.Registers.{read}
use Rattle.codes.proofs.Corrections.{among_at, place-right, place_wrong}
use Rattle.codes.proofs.errors.correct_places.Goals as goal

pub offset_bounds-word-place : goal.offset_bounds-word-place
offset_bounds-word-place g c =
    let t = zip_turn c.args.places.now c.args.values.now c.loop-place.yielded c.into_iter-place-iterator.result c.loop-place.place-iterator c.next.new.self c.next.result (cc) (cc) c.loop-place.yielded_by (c.in-Some.place, c.in-Some.value) c.in-Some.is c.next.ensures.steps in
    let inside = c.requires.places.1 (get_or c.args.places.now (length c.loop-place.yielded) 0) (among_at c.args.places.now (length c.loop-place.yielded) 0 t.0) in
    let h : c.in-Some.place.now < length c.loop-place.word = omega (arith, inside, t.2 0, c.loop-place.invariant.1.long) in
    search rules

pub bounds-word-place : goal.bounds-word-place
bounds-word-place g c =
    let t = zip_turn c.args.places.now c.args.values.now c.loop-place.yielded c.into_iter-place-iterator.result c.loop-place.place-iterator c.next.new.self c.next.result (cc) (cc) c.loop-place.yielded_by (c.in-Some.place, c.in-Some.value) c.in-Some.is c.next.ensures.steps in
    let inside = c.requires.places.1 (get_or c.args.places.now (length c.loop-place.yielded) 0) (among_at c.args.places.now (length c.loop-place.yielded) 0 t.0) in
    omega (arith, inside, t.2 0, c.loop-place.invariant.1.long)

pub loop-place-preserved : goal.loop-place-preserved
loop-place-preserved g c =
    let F = g.F.Field in
    let f = F.field in
    let k = length c.loop-place.yielded in
    let ps = c.args.places.now in
    let values = c.args.values.now in
    let ys = map F.mean values in
    let now = c.loop-place.word in
    let t = zip_turn c.args.places.now c.args.values.now c.loop-place.yielded c.into_iter-place-iterator.result c.loop-place.place-iterator c.next.new.self c.next.result (cc) (cc) c.loop-place.yielded_by (c.in-Some.place, c.in-Some.value) c.in-Some.is c.next.ensures.steps in
    let there : k < length ys = omega (arith, length-map values F.mean, t.1) in
    let value = read f F.mean values k c.in-Some.value.now t.1 (t.3 c.in-Some.value.now) in
    let tested = ap₂ f.equal (sym value) (sym c.zero.ensures) ∙ sym c.same.ensures in
    rw (length_push c.loop-place.yielded (c.in-Some.place, c.in-Some.value)) (
      omega (arith, c.loop-place.invariant.0),
      place-right g.met.F.Field.laws F.mean ps ys k c.args.word.now now c.loop-place.changed t.0 there c.requires.places.0 c.requires.places.1 c.loop-place.invariant.1
          (tested ∙ c.if-not-same.false),
    )

pub loop-place-preserved-then-not-same : goal.loop-place-preserved-then-not-same
loop-place-preserved-then-not-same g c =
    let F = g.F.Field in
    let f = F.field in
    let k = length c.loop-place.yielded in
    let ps = c.args.places.now in
    let values = c.args.values.now in
    let ys = map F.mean values in
    let now = c.loop-place.word in
    let t = zip_turn c.args.places.now c.args.values.now c.loop-place.yielded c.into_iter-place-iterator.result c.loop-place.place-iterator c.next.new.self c.next.result (cc) (cc) c.loop-place.yielded_by (c.in-Some.place, c.in-Some.value) c.in-Some.is c.next.ensures.steps in
    let there : k < length ys = omega (arith, length-map values F.mean, t.1) in
    let value = read f F.mean values k c.in-Some.value.now t.1 (t.3 c.in-Some.value.now) in
    let tested = ap₂ f.equal (sym value) (sym c.zero.ensures) ∙ sym c.same.ensures in
    let at = t.2 0 in
    let inside : c.in-Some.place.now < length now = omega (arith, c.requires.places.1 (get_or ps k 0) (among_at ps k 0 t.0), at, c.loop-place.invariant.1.long) in
    let symbol = sym (get_or-map F.mean now c.in-Some.place.now c.index-word-place.result f.zero inside) ∙ ap (λ (j : ℕ). get_or (map F.mean now) j f.zero) at in
    rw (length_push c.loop-place.yielded (c.in-Some.place, c.in-Some.value)) (
      omega (arith, c.loop-place.invariant.0),
      rw at (place_wrong g.met.F.Field.laws F.mean ps ys k c.args.word.now now c.loop-place.changed t.0 there c.requires.places.0 c.requires.places.1 c.loop-place.invariant.1
          c.add.result (c.add.ensures ∙ ap₂ f.add symbol (c.neg.ensures ∙ ap f.neg value)) (tested ∙ c.if-not-same.true)),
    )
