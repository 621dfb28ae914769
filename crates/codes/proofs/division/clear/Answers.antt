use Rattle.std.proofs.Common.{map, length, sym, ◌∙◌, arith}
use lib.ListN.{length-map, length-replicate, get_or-replicate}
use Rattle.codes.specs.Polynomials.{zeros}
use Rattle.codes.proofs.Registers.{next_written}
use Rattle.codes.proofs.division.clear.Goals as goal

pub loop-symbol-preserved : goal.loop-symbol-preserved
loop-symbol-preserved g c =
    let F = g.F.Field in
    let f = F.field in
    let i = c.loop-symbol.symbol-index in
    let old = c.args.symbols.now in
    let long = length-map old F.mean in
    next_written f F.mean c.loop-symbol.symbols (zeros f (length old)) (map F.mean old) i c.zero-zero.result c.zero-zero.result
    (length-replicate (length old) f.zero ∙ sym long) (omega arith) (omega arith) c.loop-symbol.invariant
    (λ here. c.zero-zero.ensures ∙ sym (get_or-replicate (length old) i f.zero f.zero c.loop-symbol-test.true))
