use Rattle.std.proofs.Common.{map, ◌∙◌, arith}
use lib.ListN.{length-map}
use Rattle.codes.proofs.LongDivision.{take_in}
use Rattle.codes.proofs.division.take_in.Goals as goal

pub loop-symbol-preserved : goal.loop-symbol-preserved
loop-symbol-preserved g c =
    let F = g.F.Field in
    let tail = c.args.tail.now in (
      omega (arith, c.loop-symbol-test.true),
      take_in g.met.F.Field.laws F.mean (map F.mean tail) c.args.message.now c.loop-symbol.rest c.step.new.rest
          c.loop-symbol.symbol-index c.symbol-item.result c.loop-symbol-test.true c.symbol-item.is
          (omega (arith, length-map tail F.mean, c.loop-symbol.auto.rest, c.requires.0)) (omega (arith, length-map tail F.mean, c.requires.1)) c.step.ensures
          ∙ c.loop-symbol.invariant.1,
    )
