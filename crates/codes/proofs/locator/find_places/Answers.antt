use Rattle.std.proofs.Common.{◌≡◌, ℕ, ◌+◌, ◌-◌, ◌<◌, [], ◌∷◌, map, length, take, sym, refl, ap, ◌∙◌, subst, ap₂, add-one, arith, length-append}
use lib.ListN.{length-map}
use Rattle.gf.specs.Theory.{pow}
use Rattle.codes.specs.Polynomials.{zeros}
use Rattle.codes.specs.steps.Decoding.{point, terms_of, total, Suspects}
use Rattle.codes.proofs.PowerSums.{unequal}
use Rattle.codes.proofs.Searching.{terms_one, terms_terms, hit, miss, room, points-next}
use Rattle.codes.proofs.Suspects.{suspects-none}
use Rattle.codes.proofs.locator.find_places.Goals as goal
use Rattle.codes.proofs.locator.find_places.Goals.{then-same, else-same}

pub loop-place-init : goal.loop-place-init
loop-place-init g c =
    let F = g.F.Field in
    let f = F.field in
    let l = g.met.F.Field.laws in
    let none : 0 ≡ c.args.symbols - c.args.symbols = omega arith in
    let p = map F.mean c.args.terms.now in
    subst (λ (e : ℕ). map F.mean c.args.terms.now ≡ terms_of f (pow f f.root e) p × F.mean c.one-point.result ≡ pow f f.root e
    × Suspects f p c.args.symbols e c.new-places.result.items
    × map F.mean (take (length c.new-places.result.items) c.args.points.now) ≡ map (point f c.args.symbols) c.new-places.result.items
    × length c.new-places.result.items < length c.args.terms.now) none
    (rw c.new-places.ensures (sym (terms_one l p), c.one-point.ensures, suspects-none l _ _, refl, c.requires.sizes.1.0))

-- with the place at hand there are still fewer places than coefficients
pub bounds-points-len : goal.bounds-points-len
bounds-points-len g c =
    let F = g.F.Field in
    let f = F.field in
    let p = map F.mean c.args.terms.now in
    let long = length-map c.args.terms.now F.mean in
    let sum = ap (total f) (sym c.loop-place.invariant.0) ∙ sym c.next_value.ensures.value ∙ g.met.F.Field.laws.equal_no _ _ (sym c.if-same.ensures) ∙ c.zero.ensures in
    let few = room g.met.F.Field.laws p c.args.symbols (c.loop-place.place - 1) (c.args.symbols - c.loop-place.place) (omega (arith, c.loop-place.auto, c.loop-place-test.true))
    c.loop-place.places.items sum c.loop-place.invariant.2 c.requires.sizes.0 (omega (arith, long, c.requires.sizes)) (λ z. c.requires.some (z ∙ ap (zeros f) long)) in
    omega (arith, long, few, c.requires.sizes, c.loop-place.auto, c.len.ensures.value)

pub push-requires : goal.push-requires
push-requires g c =
    let F = g.F.Field in
    let f = F.field in
    let p = map F.mean c.args.terms.now in
    let long = length-map c.args.terms.now F.mean in
    let sum = ap (total f) (sym c.loop-place.invariant.0) ∙ sym c.next_value.ensures.value ∙ g.met.F.Field.laws.equal_no _ _ (sym c.if-same.ensures) ∙ c.zero.ensures in
    let few = room g.met.F.Field.laws p c.args.symbols (c.loop-place.place - 1) (c.args.symbols - c.loop-place.place) (omega (arith, c.loop-place.auto, c.loop-place-test.true))
    c.loop-place.places.items sum c.loop-place.invariant.2 c.requires.sizes.0 (omega (arith, long, c.requires.sizes)) (λ z. c.requires.some (z ∙ ap (zeros f) long)) in
    (omega arith, omega (arith, long, few, c.requires.sizes))

pub loop-place-preserved : goal.loop-place-preserved
loop-place-preserved g c =
    let F = g.F.Field in
    let f = F.field in
    let laws = g.met.F.Field.laws in
    let n = c.args.symbols in
    let k = c.loop-place.place - 1 in
    let e = n - c.loop-place.place in
    let here : k + e + 1 ≡ n = omega (arith, c.loop-place.auto, c.loop-place-test.true) in
    let next : e + 1 ≡ n - (c.loop-place.place - 1) = omega (arith, c.loop-place.auto, c.loop-place-test.true) in
    let places = c.loop-place.places.items in
    let p = map F.mean c.args.terms.now in
    let long = length-map c.args.terms.now F.mean in
    let power = pow f f.root e in
    let more : pow f f.root (e + 1) ≡ f.mul f.root power = ap (pow f f.root) (add-one e) in
    let sum = c.next_value.ensures.value ∙ ap (total f) c.loop-place.invariant.0 in
    let terms = c.next_value.ensures.next ∙ ap (terms_of f f.root) c.loop-place.invariant.0 ∙ terms_terms laws power f.root p ∙ ap (λ x. terms_of f x p) (sym more) in
    let point-now = c.times_root_power-point.ensures ∙ ap₂ f.mul c.loop-place.invariant.1 (laws.mul-one f.root) ∙ laws.mul_comm power f.root ∙ sym more in
    subst (λ (m : ℕ). map F.mean c.next_value.new.terms ≡ terms_of f (pow f f.root m) p × F.mean c.times_root_power-point.result ≡ pow f f.root m
    × Suspects f p n m c.if-same.places.items
    × map F.mean (take (length c.if-same.places.items) c.if-same.points) ≡ map (point f n) c.if-same.places.items
    × length c.if-same.places.items < length c.args.terms.now) next
    (elim c.if-same.branch [
      | then-same w ↦
          let root = sym sum ∙ laws.equal_no _ _ (sym w.if-same.ensures) ∙ c.zero.ensures in
          let few = room laws p n k e here places root c.loop-place.invariant.2 c.requires.sizes.0 (omega (arith, long, c.requires.sizes)) (λ z. c.requires.some (z ∙ ap (zeros f) long)) in
          let inside : length places < length c.loop-place.points = omega (arith, long, few, c.requires.sizes, c.loop-place.auto) in
          let pushed = ap (λ v. v.items) w.places-is ∙ w.push.ensures.items in (
            terms,
            point-now,
            rw pushed (hit laws p n k e here places root c.loop-place.invariant.2),
            rw (pushed, w.points-is, w.len.ensures.value)
                (points-next laws p n k e here places root c.loop-place.invariant.2 F.mean c.loop-place.points c.loop-place.point inside c.loop-place.invariant.1 c.loop-place.invariant.3),
            rw pushed (omega (arith, long, few, length-append places (k ∷ []))),
          )
      | else-same w ↦
          let same = ap (λ v. v.items) w.places-is in (
            terms,
            point-now,
            rw same (miss laws p n k e here places (λ z. unequal laws _ _ (sym c.same.ensures ∙ w.if-same.false) (sum ∙ z ∙ sym c.zero.ensures)) c.loop-place.invariant.2),
            rw (same, w.points-is) c.loop-place.invariant.3,
            rw same c.loop-place.invariant.4,
          )
    ])
