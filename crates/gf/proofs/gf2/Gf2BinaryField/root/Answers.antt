use Rattle.std.proofs.Common.{refl}
use Rattle.gf.specs.Bits.{bits, zeros, plus, only, shift, out, times_x}
use Rattle.gf.specs.Fields.{low2}
use Rattle.gf.proofs.gf2.Gf2BinaryField.root.Goals as goal

pub returns : goal.returns
unfolding bits zeros plus only shift out times_x low2
returns c = refl
