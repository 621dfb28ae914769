use Rattle.std.proofs.Common.{◌≡◌, map, length, take, sym, ap, ◌∙◌, arith, rules}
use lib.ListN.{length-map, length-replicate}
use Rattle.codes.specs.Polynomials.{zeros}
use Rattle.codes.specs.steps.Elimination.{entries}
use Rattle.codes.proofs.Shapes.{code_sizes, zeros_over}
use Rattle.codes.proofs.Outcomes.{all_zero_at, outcome_clean}
use Rattle.codes.proofs.code.correct_word.Goals as goal

pub returns-then-are_zero : goal.returns-then-are_zero
unfolding entries
returns-then-are_zero g c =
    let F = g.F.Field in
    let l = g.met.F.Field.laws in
    let syndromes = c.write_syndromes.new.syndromes in
    let parts = c.split_at_mut-syndromes.result in
    let r = c.args.checks in
    let sizes = code_sizes F.field (length c.args.word.now) r c.requires.shape in
    let front : length (take r parts.0.now) ≡ r = search rules in
    let many : length syndromes ≡ r = search rules in
    let same : c.min.result ≡ r = omega (arith, c.min.ensures, sizes) in
    let none = sym (c.if-are_zero.ensures) in
    record {
      outcome = outcome_clean l F.mean r c.args.word.now (omega arith) sizes.3
          (λ i h. sym (c.write_syndromes.ensures i (omega (arith, front))) ∙ all_zero_at l (map F.mean syndromes) none i (omega (arith, many, length-map syndromes F.mean)));
      work = zeros_over l F.mean 512 c.min.result syndromes parts.0.now parts.1.now c.args.work.now c.split_at_mut-syndromes.ensures.value c.requires.work
          (omega (arith, sizes, same)) (many ∙ sym same) none;
    }

pub returns-clause-work : goal.returns-clause-work
returns-clause-work g c =
    let sized : length c.args.work.now ≡ 512 = sym (length-map c.args.work.now g.F.Field.mean) ∙ ap length c.requires.work ∙ length-replicate 512 g.F.Field.field.zero in
    let long : length c.clear.new.symbols ≡ 512 = search rules in
    c.clear.ensures ∙ ap (zeros g.F.Field.field) (sym c.clear.auto.symbols ∙ long)
