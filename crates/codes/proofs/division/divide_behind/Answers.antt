use Rattle.codes.proofs.Answering.{behind}
use Rattle.codes.proofs.division.divide_behind.Goals as goal

pub returns : goal.returns
returns g c =
    behind g.met.F.Field.laws g.F.Field.mean c.args.divisor.now c.args.message.now c.args.rest.now c.take_in.new.rest
    c.requires c.take_in.ensures
