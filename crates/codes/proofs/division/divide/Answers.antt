use Rattle.std.proofs.Common.{◌++◌, map, length, subst}
use Rattle.codes.specs.Division.{Remainder}
use Rattle.codes.proofs.Answering.{alone}
use Rattle.codes.proofs.division.divide.Goals as goal

pub returns : goal.returns
returns g c =
    let F = g.F.Field in
    let message = map F.mean c.args.message.now in
    let divisor = map F.mean c.args.divisor.now in
    let rest = map F.mean c.divide_behind.new.rest in
    alone g.met.F.Field.laws (length c.args.rest.now) divisor c.requires (length c.args.rest.now) message rest
    (subst (λ cleared. Remainder F.field (cleared ++ message) divisor rest) c.clear.ensures c.divide_behind.ensures)
