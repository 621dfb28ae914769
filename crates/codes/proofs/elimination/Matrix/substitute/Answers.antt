use Rattle.std.proofs.Common.{◌-◌, sym, ◌∙◌, ap₂, arith}
use Rattle.codes.specs.steps.Elimination.{cells, entries}
use Rattle.codes.proofs.Cells.{place_set, place_other}
use Rattle.codes.proofs.Stages.{solved_none, solved_more}
use Rattle.codes.proofs.elimination.Matrix.substitute.Goals as goal

pub loop-row-init : goal.loop-row-init
loop-row-init g c =
    let F = g.F.Field in
    let f = F.field in
    solved_none g.met.F.Field.laws c.args.self.now.rows c.args.self.now.columns c.args.free (cells f F.mean c.args.self.now.columns c.args.self.now.symbols.now)
    (omega arith) (omega arith) c.requires.shape.0 c.requires.shape.1 (entries f F.mean c.single.new.vector) c.single.ensures

pub loop-row-preserved : goal.loop-row-preserved
loop-row-preserved g c =
    let F = g.F.Field in
    let f = F.field in
    let a = cells f F.mean c.args.self.now.columns c.args.self.now.symbols.now in
    let xs = c.loop-row.vector in
    let n = c.loop-row.row in
    let x = c.clearing.result in
    solved_more g.met.F.Field.laws c.args.self.now.rows c.args.self.now.columns c.args.free a (omega arith) (omega arith) c.requires.shape.0 c.requires.shape.1
    n (n - 1) (entries f F.mean xs) _ (F.mean x) (omega arith) (omega arith) c.loop-row.invariant
    (ap₂ (λ y z. f.add y (f.mul (F.mean x) z)) (sym c.dot-rest.ensures) (sym c.at.ensures) ∙ c.clearing.ensures)
    (place_set f F.mean xs (n - 1) x (omega arith))
    (λ j d. place_other f F.mean xs (n - 1) j x d)
