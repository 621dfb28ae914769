use Rattle.codes.proofs.Cells.{cell_put}
use Rattle.codes.proofs.elimination.Matrix.put.Goals as goal

pub returns-clause-written : goal.returns-clause-written
returns-clause-written g c =
    let F = g.F.Field in
    let m = c.args.self.now in
    cell_put F.field F.mean m.columns m.symbols.now c.args.row c.args.column c.place-place.result c.args.value c.place-place.ensures.value c.requires.1 c.place-place.ensures.within
