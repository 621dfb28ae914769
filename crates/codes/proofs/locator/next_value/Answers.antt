use Rattle.std.proofs.Common.{◌≡◌, ℕ, ◌-◌, ◌%◌, ◌<◌, map, length, get_or, set, sym, ap, ◌∙◌, ap₂, arith}
use lib.ListN.{length-map}
use lib.Seq.{map-set}
use Rattle.std.proofs.lemmas.List.{get_or-map}
use Rattle.gf.specs.Theory.{pow}
use Rattle.codes.specs.steps.Decoding.{terms_of}
use Rattle.codes.proofs.Registers.{advance, next_as_was, whole}
use Rattle.codes.proofs.Searching.{length-terms_of, terms_at, total-next}
use Rattle.codes.proofs.locator.next_value.Goals as goal

pub loop-k-preserved : goal.loop-k-preserved
loop-k-preserved g c =
    let F = g.F.Field in
    let f = F.field in
    let k = c.loop-k.k in
    let old = map F.mean c.args.terms.now in
    let new = terms_of f f.root old in
    let end = length-map c.args.terms.now F.mean in
    let inside : k < length c.loop-k.terms = omega (arith, c.loop-k.auto, c.loop-k-test.true) in
    let here : k < length old = omega (arith, end, c.loop-k.auto, inside) in
    let symbol =
    sym (get_or-map F.mean c.loop-k.terms k c.index-terms-k.result f.zero inside)
    ∙ ap (λ xs. get_or xs k f.zero) c.loop-k.invariant.1
    ∙ next_as_was f.zero new old k (length-terms_of f f.root old) (omega arith) in
    let power : (length c.args.terms.now - 1 - k) % 16 ≡ length old - 1 - k = omega (arith, end, c.requires) in (
      c.add-value.ensures ∙ ap₂ f.add c.loop-k.invariant.0 symbol ∙ sym (total-next g.met.F.Field.laws old k here),
      map-set F.mean c.loop-k.terms k c.times_root_power.result
          ∙ ap₂ (λ xs x. set xs k x) c.loop-k.invariant.1
          (c.times_root_power.ensures ∙ ap₂ (λ x (n : ℕ). f.mul x (pow f f.root n)) symbol power ∙ sym (terms_at f f.root old k here))
          ∙ advance f.zero new old k (length-terms_of f f.root old) here,
    )

pub returns-clause-next : goal.returns-clause-next
returns-clause-next g c =
    let F = g.F.Field in
    let old = map F.mean c.args.terms.now in
    let new = terms_of F.field F.field.root old in
    let end = length-map c.args.terms.now F.mean in
    c.loop-k.invariant.1
    ∙ whole F.field.zero new old c.loop-k.k (omega (arith, end, length-terms_of F.field F.field.root old, c.loop-k.auto, c.loop-k-test.false))
    (omega (arith, end, c.loop-k.auto, c.loop-k-test.false))
