use Rattle.std.proofs.Common.{◌+◌, ◌*◌, ◌≤◌, arith}
use Rattle.std.proofs.Math.Nat.{mul-le-mul_left}
use Rattle.block.proofs.writer.SealedWriter.frame.Goals as goal

pub slice_bounds-result-end : goal.slice_bounds-result-end
slice_bounds-result-end c =
    let last : c.args.n + 1 ≤ 5 = omega arith in
    omega (arith, c.in_ok-check_buffer.ensures, mul-le-mul_left (24 * c.args.self.now.size) last)
