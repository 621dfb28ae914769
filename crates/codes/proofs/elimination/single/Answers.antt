use Rattle.std.proofs.Common.{length, ◌∙◌, arith}
use Rattle.codes.proofs.Cells.{place_set, place_other, place-zeros}
use Rattle.codes.proofs.elimination.single.Goals as goal

pub returns : goal.returns
returns g c =
    let F = g.F.Field in
    let f = F.field in
    let xs = c.clear.new.symbols in
    record {
      here = place_set f F.mean xs c.args.free c.one.result (omega arith) ∙ c.one.ensures;
      elsewhere = λ j d. place_other f F.mean xs c.args.free j c.one.result d ∙ place-zeros f F.mean xs (length c.args.vector.now) c.clear.ensures j;
    }
