use Rattle.std.proofs.Common.{◌≡◌, map, length, sym, refl, ◌∙◌, true≢false, arith}
use lib.ListN.{length-map}
use Rattle.codes.specs.steps.Elimination.{entries}
use Rattle.codes.proofs.Outcomes.{all_zero_at, all_zero_of, outcome_right, outcome_wrong}
use Rattle.codes.proofs.errors.correct_errors.Goals as goal

pub correct_places-requires-clause-places : goal.correct_places-requires-clause-places
correct_places-requires-clause-places g c =
    let suspects = c.find_errors-places.ensures.located.suspects in
    rw c.as_slice.ensures.value (suspects.apart, suspects.below)

pub returns-then-not-are_zero : goal.returns-then-not-are_zero
unfolding entries
returns-then-not-are_zero g c =
    let F = g.F.Field in
    let left = c.find_errors-places.new.syndromes in
    let long : length left ≡ length c.args.syndromes.now = c.find_errors-places.auto.syndromes in (
      refl,
      outcome_wrong g.met.F.Field.laws F.mean _ c.args.word.now _ _ _ _
          c.requires.sizes.1.0 c.requires.sizes.1.1.0 c.requires.syndromes c.find_errors-places.ensures
          (λ z. true≢false (sym (all_zero_of g.met.F.Field.laws (map F.mean left) (λ i h. z i (omega (arith, long, length-map left F.mean))))
          ∙ sym c.if-not-are_zero.ensures)),
    )

pub returns : goal.returns
unfolding entries
returns g c =
    let F = g.F.Field in
    let left = c.find_errors-places.new.syndromes in
    let long : length left ≡ length c.args.syndromes.now = c.find_errors-places.auto.syndromes in
    outcome_right g.met.F.Field.laws F.mean _ c.args.word.now _ _ _ _
    c.requires.sizes.1.0 c.requires.sizes.1.1.0 c.requires.syndromes c.find_errors-places.ensures c.correct_places.new.word c.correct_places.result
    (λ i h. all_zero_at g.met.F.Field.laws (map F.mean left) (sym c.if-not-are_zero.ensures) i (omega (arith, long, length-map left F.mean)))
    (rw (c.as_slice.ensures.value, c.len.ensures.value) at c.correct_places.ensures)
