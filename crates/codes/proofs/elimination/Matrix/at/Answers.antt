use Rattle.std.proofs.Common.{sym, ap, ◌∙◌}
use Rattle.codes.proofs.Cells.{cell_read}
use Rattle.codes.proofs.elimination.Matrix.at.Goals as goal

pub returns : goal.returns
returns g c =
    let F = g.F.Field in
    let m = c.args.self.now in
    ap F.mean (sym c.index-self-place.is)
    ∙ cell_read F.field F.mean m.columns m.symbols.now c.args.row c.args.column c.place.result c.index-self-place.result c.place.ensures.value c.place.ensures.within c.index-self-place.is
