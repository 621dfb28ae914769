-- The laws of the three fields: their tables are computed from the polynomial, and pass the tests. Each field has its own lines, since the
-- checker computes tables and tests only at numbers.
use Rattle.std.specs.Prelude.{ℕ, List}
use Rattle.gf.specs.Theory.{Laws}
use Rattle.gf.specs.Bits.{bits, number, zeros, plus, equal, only, shift, out, times_x, times_row, times}
use Rattle.gf.specs.Fields.{low2, low16, low256, gf2, gf16, gf256}
use Rattle.gf.specs.laws.Tests.{below}
use Rattle.gf.specs.laws.Computed.{walk, entry, turned, Tables, tables, Sound, listed, root_products}
use Rattle.gf.specs.laws.Powers.{laws}

unfoldable pub tables2 : Tables
unfolding tables bits low2 number zeros plus only shift out times_x
tables2 = tables 1 low2 0

pub sound2 : Sound 1 low2 0 tables2
unfolding tables2 equal times_row times below walk entry turned
sound2 = record { spans = tt; powers = tt; padding = tt; entries = tt; back = tt; round = tt; unequal = tt; zero_bits = tt; inverses = tt }

pub laws2 : Laws gf2
laws2 = laws 1 low2 0 tables2 sound2

unfoldable pub tables16 : Tables
unfolding tables bits low16 number zeros plus only shift out times_x
tables16 = tables 4 low16 14

pub sound16 : Sound 4 low16 14 tables16
unfolding tables16 equal times_row times below walk entry turned
sound16 = record { spans = tt; powers = tt; padding = tt; entries = tt; back = tt; round = tt; unequal = tt; zero_bits = tt; inverses = tt }

pub laws16 : Laws gf16
laws16 = laws 4 low16 14 tables16 sound16

unfoldable pub tables256 : Tables
unfolding tables bits low256 number zeros plus only shift out times_x
tables256 = tables 8 low256 254

pub sound256 : Sound 8 low256 254 tables256
unfolding tables256 equal times_row times below walk entry turned
sound256 = record { spans = tt; powers = tt; padding = tt; entries = tt; back = tt; round = tt; unequal = tt; zero_bits = tt; inverses = tt }

pub laws256 : Laws gf256
laws256 = laws 8 low256 254 tables256 sound256

unfoldable pub root_products256 : List (List ℕ)
unfolding tables256 root_products listed
root_products256 = root_products 8 tables256.exps tables256.logs
