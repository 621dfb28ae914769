use Rattle.std.proofs.Common.{sym, subst}
use Rattle.codes.specs.Codewords.{Apart}
use Rattle.codes.proofs.Suspects.{points-apart}
use Rattle.codes.proofs.errors.find_errors.Goals as goal

pub account_for-requires-clause-apart : goal.account_for-requires-clause-apart
account_for-requires-clause-apart g c =
    rw c.len.ensures.value
    (subst Apart (sym c.locate-places.ensures.points)
    (points-apart g.met.F.Field.laws _ _ _ _ c.requires.0 c.locate-places.ensures.places.suspects))
