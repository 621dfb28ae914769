use Rattle.std.proofs.Common.{sym, ◌∙◌, ap₂, arith}
use Rattle.codes.proofs.Moves.{cleared_all}
use Rattle.codes.proofs.elimination.Matrix.clear_row.Goals as goal

pub returns-clause-cleared : goal.returns-clause-cleared
returns-clause-cleared g c =
    let F = g.F.Field in
    let f = F.field in
    cleared_all f c.args.self.now.columns c.args.pivot c.loop-column.column _ c.args.row _ _ c.loop-column-test.false (omega arith) c.loop-column.invariant.2
    (ap₂ (λ x y. f.add x (f.mul (F.mean c.clearing-factor.result) y)) (sym c.at.ensures) (sym c.at-2.ensures) ∙ c.clearing-factor.ensures)
