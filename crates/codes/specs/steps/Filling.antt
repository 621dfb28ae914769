-- What the steps that write the generator promise each other. No public contract speaks of these.
use Rattle.std.specs.Prelude.{◌≡◌, ℕ, ◌<◌, ◌≤◌, List, ◌∷◌, slice_index_or}
use Rattle.gf.specs.Theory.{Operations}

module _ {E : Type 0} (f : Operations E) where
  -- the places hold the polynomial, and zeros behind it
  abbrev pub Holds : List E → (ℕ → E) → Type 0
  Holds p u = (j : ℕ) → u j ≡ slice_index_or p j f.zero

  -- the places before k hold what q does there, the others what p does, and x is what p has in front of k
  pub record FactorTaken (k : ℕ) (p q : List E) (x : E) (u : ℕ → E) : Type 0 where
    pub low : (j : ℕ) → j < k → u j ≡ slice_index_or q j f.zero
    pub high : (j : ℕ) → k ≤ j → u j ≡ slice_index_or p j f.zero
    pub before : x ≡ slice_index_or (f.zero ∷ p) k f.zero
