use Rattle.std.proofs.Common.{map, arith}
use lib.ListN.{length-map}
use Rattle.codes.proofs.Registers.{next_mapped}
use Rattle.codes.proofs.syndromes.add_last.Goals as goal

pub loop-syndrome-preserved : goal.loop-syndrome-preserved
loop-syndrome-preserved g c =
    let F = g.F.Field in
    let f = F.field in
    next_mapped f F.mean (λ value. f.add value (F.mean c.args.symbol)) c.loop-syndrome.syndromes (map F.mean c.args.syndromes.now) c.loop-syndrome.syndrome-index
    c.syndrome-item.result c.add.result (omega (arith, length-map c.args.syndromes.now F.mean)) (omega arith) c.loop-syndrome.invariant c.add.ensures
