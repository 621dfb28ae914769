use Rattle.std.proofs.Common.{refl}
use Rattle.gf.specs.Bits.{bits, zeros, plus, only, shift, out, times_x}
use Rattle.gf.specs.Fields.{low16}
use Rattle.gf.proofs.gf16.Gf16BinaryField.root.Goals as goal

pub returns : goal.returns
unfolding bits zeros plus only shift out times_x low16
returns c = refl
