use Rattle.std.proofs.Common.{map, arith}
use lib.ListN.{length-map}
use Rattle.codes.proofs.Registers.{next_mapped}
use Rattle.codes.proofs.code.write_negatives.Goals as goal

pub loop-place-preserved : goal.loop-place-preserved
loop-place-preserved g c =
    let F = g.F.Field in
    let f = F.field in
    let copied = c.copy_from_slice.new.self in
    next_mapped f F.mean f.neg c.loop-place.places (map F.mean copied) c.loop-place.place-index
    c.place-item.result c.neg.result (omega (arith, length-map copied F.mean)) (omega arith) c.loop-place.invariant c.neg.ensures
