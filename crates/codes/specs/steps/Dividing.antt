-- What one step of a division does to the rest. No public contract speaks of it.
use Rattle.std.specs.Prelude.{List, [], ◌∷◌, ◌++◌}
use Rattle.gf.specs.Theory.{Operations}
use Rattle.codes.specs.Polynomials.{scale, negs, over}

module _ {E : Type 0} (f : Operations E) where
  -- one step with the next symbol m coming in behind as many symbols as the degree
  abbrev pub stepped : List E → List E → E → List E
  stepped d [] m = []
  stepped d (c ∷ r) m = over f (r ++ (m ∷ [])) (negs f (scale f c d))
