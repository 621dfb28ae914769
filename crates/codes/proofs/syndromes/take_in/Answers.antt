use Rattle.std.proofs.Common.{ℕ, ◌<◌, ap, ◌∙◌, ap₂, mod-eq_of_lt, arith}
use Rattle.gf.specs.Theory.{pow}
use Rattle.codes.specs.steps.Elimination.{entries}
use Rattle.codes.proofs.Cells.{place_set, place_other}
use Rattle.codes.proofs.Taking.{taken_more}
use Rattle.codes.proofs.Cells.{place_at}
use Rattle.codes.proofs.syndromes.take_in.Goals as goal

pub loop-i-preserved : goal.loop-i-preserved
loop-i-preserved g c =
    let F = g.F.Field in
    let f = F.field in
    let i = c.loop-i.i in
    let xs = c.loop-i.syndromes in
    let symbol = F.mean c.args.symbol in
    let below : i < 16 = omega arith in
    let read = place_at f F.mean xs i c.index-syndromes-i.result (omega arith) in
    taken_more f i symbol (entries f F.mean c.args.syndromes.now) (entries f F.mean xs) _ c.loop-i.invariant
    (place_set f F.mean xs i c.times_root_power.result (omega arith) ∙ c.times_root_power.ensures
    ∙ ap₂ (λ y (n : ℕ). f.mul y (pow f f.root n)) (c.add.ensures ∙ ap (λ y. f.add y symbol) read) (mod-eq_of_lt below))
    (λ j d. place_other f F.mean xs i j c.times_root_power.result d)
