use Rattle.std.proofs.Common.{length, sym, ◌∙◌, arith, rules}
use Rattle.codes.specs.steps.Elimination.{entries}
use Rattle.codes.proofs.Elements.{zero-mul}
use Rattle.codes.proofs.Cells.{place-zeros}
use Rattle.codes.proofs.Taking.{raised_more, syndromes_last, syndromes_empty}
use Rattle.codes.proofs.syndromes.write_syndromes.Goals as goal

pub loop-symbol-init : goal.loop-symbol-init
loop-symbol-init g c i h =
    let F = g.F.Field in
    place-zeros F.field F.mean c.clear.new.symbols (length c.args.syndromes.now) c.clear.ensures i
    ∙ sym (zero-mul g.met.F.Field.laws _)

pub loop-symbol-preserved : goal.loop-symbol-preserved
loop-symbol-preserved g c i h =
    let F = g.F.Field in
    let f = F.field in
    let now = c.loop-symbol.syndromes in
    raised_more g.met.F.Field.laws F.mean c.in-Some.others.now c.loop-symbol.symbol-index c.symbol-item.result (length now)
    (entries f F.mean now) (entries f F.mean c.take_in.new.syndromes) c.loop-symbol-test.true c.symbol-item.is
    (λ j b. c.loop-symbol.invariant j (omega arith)) c.take_in.ensures i (omega arith)

pub returns-after-loop-symbol : goal.returns-after-loop-symbol
returns-after-loop-symbol g c =
    let F = g.F.Field in
    syndromes_last g.met.F.Field.laws F.mean c.args.word.now c.in-Some.others.now c.in-Some.last.now c.loop-symbol.symbol-index (length c.args.syndromes.now)
    c.loop-symbol.syndromes c.add_last.new.syndromes c.in-Some.ensures.cases.0 c.loop-symbol-test.false (search rules)
    (search rules) c.add_last.ensures

pub returns-in_default : goal.returns-in_default
returns-in_default g c =
    let F = g.F.Field in
    syndromes_empty g.met.F.Field.laws F.mean c.args.word.now (length c.args.syndromes.now) (entries F.field F.mean c.clear.new.symbols) c.in_default.ensures.cases
    (place-zeros F.field F.mean c.clear.new.symbols (length c.args.syndromes.now) c.clear.ensures)
