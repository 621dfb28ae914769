use Rattle.std.proofs.Common.{refl}
use Rattle.gf.specs.Bits.{bits, zeros, plus, only, shift, out, times_x}
use Rattle.gf.specs.Fields.{low256}
use Rattle.gf.proofs.gf256.Gf256BinaryField.root.Goals as goal

pub returns : goal.returns
unfolding bits zeros plus only shift out times_x low256
returns c = refl
