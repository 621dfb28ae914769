-- What the steps on a matrix leave as it was. No public contract speaks of it.
use Rattle.std.specs.Prelude.{◌≡◌}
use Rattle.codes.specs.declared.elimination.Matrix.{Matrix}

-- as many rows and columns as before
abbrev pub SameShape : {S : Type 0} → Matrix S → Matrix S → Type 0
SameShape before after = (after.rows ≡ before.rows) × (after.columns ≡ before.columns)
