use Rattle.std.proofs.Common.{Bool, true, ◌&&◌, fold, sym, ap, ◌∙◌, rules, Bor}
use Rattle.std.proofs.lemmas.List.Folds.{fold-map}
use Rattle.codes.proofs.Taking.{all_zero-fold}
use Rattle.codes.proofs.syndromes.are_zero.Goals as goal

pub returns : goal.returns
returns g c =
    let F = g.F.Field in
    let f = F.field in
    let zero = F.mean c.zero-zero.result in
    let run = c.fold.ensures.runs in
    let step = λ (all : Bool) (x : g.row.F.Denot). all && f.equal (F.mean x) zero in
    run.3 (λ all (x : Bor g.row.F.Denot). step all x.now) (λ all x r k call. search rules)
    ∙ sym (fold-map step (λ (x : Bor g.row.F.Denot). x.now) true run.0.items)
    ∙ ap (fold step true) ((c.iter.ensures.runs run.0 run.0.seen).4 run.2 ∙ ap (λ i. i.rest.now) run.1 ∙ c.iter.ensures.rest)
    ∙ all_zero-fold f F.mean zero true c.args.symbols.now c.zero-zero.ensures
