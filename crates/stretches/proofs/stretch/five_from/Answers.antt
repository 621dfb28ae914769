-- Five frames from this place on stand in the recording.
use Rattle.std.proofs.Common.{length, arith}
use Rattle.stretches.proofs.Lines.{five_within}
use Rattle.stretches.proofs.stretch.five_from.Goals as goal

pub slice_bounds-result-end : goal.slice_bounds-result-end
slice_bounds-result-end c = omega (arith, five_within c.args.size (length c.args.recording.now) c.args.place c.requires.there)
