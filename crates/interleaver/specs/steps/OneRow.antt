-- What reading and writing one row promise. No public contract speaks of these.
use Rattle.std.specs.Prelude.{◌≡◌, ℕ, ◌<◌, List, map, length, ◌≢◌}
use Rattle.gf.specs.declared.gf256.Gf256.{Gf256}
use Rattle.interleaver.specs.Rows.{row_of}

-- the bytes that symbols are stored as
abbrev pub stored : List Gf256 → List ℕ
stored word = map (λ s. s.0) word

-- Of the block only this row is written.
pub record OnlyRow (rows symbols written : ℕ) (word before after : List ℕ) : Type 0 where
  pub long : length after ≡ length before
  pub here : row_of rows symbols after written ≡ word
  pub others : (other : ℕ) → other < rows → (other ≢ written) → row_of rows symbols after other ≡ row_of rows symbols before other
