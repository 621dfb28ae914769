use Rattle.std.proofs.Common.{◌≡◌, ◌-◌, ◌<◌, map, length, take}
use Rattle.gf.specs.Theory.{pow}
use Rattle.codes.specs.steps.Decoding.{point, terms_of, Suspects}
use Rattle.codes.proofs.locator.find_places.Given as goal

-- the terms and the point are those of the next place, and the roots behind it are found
abbrev pub invariant-loop-place : goal.invariant-loop-place
invariant-loop-place g l =
    let F = g.F.Field in
    let f = F.field in
    let p = map F.mean l.initial.terms in
    let e = l.symbols - l.place in
    (map F.mean l.terms ≡ terms_of f (pow f f.root e) p) × (F.mean l.point ≡ pow f f.root e) × Suspects f p l.symbols e l.places.items
    × (map F.mean (take (length l.places.items) l.points) ≡ map (point f l.symbols) l.places.items)
    × (length l.places.items < length l.initial.terms)
