-- What the steps that compute syndromes promise each other, symbol by symbol. No public contract speaks of these.
use Rattle.std.specs.Prelude.{◌≡◌, ℕ, ◌<◌, ◌≤◌, List}
use Rattle.gf.specs.Theory.{Operations, pow}
use Rattle.codes.specs.Codewords.{syndrome}

module _ {E : Type 0} (f : Operations E) where
  -- at each place i below n the value v i has taken in the symbol c, and the sum is multiplied by the i-th power of the root
  pub record Taken (n : ℕ) (c : E) (v u : ℕ → E) : Type 0 where
    pub done : (i : ℕ) → i < n → u i ≡ f.mul (f.add (v i) c) (pow f f.root i)
    pub left : (i : ℕ) → n ≤ i → u i ≡ v i

  -- at each place i below n stands the value of the word at the i-th power of the root
  abbrev pub Syndromes : ℕ → List E → (ℕ → E) → Type 0
  Syndromes n word u = (i : ℕ) → i < n → u i ≡ syndrome f word i
