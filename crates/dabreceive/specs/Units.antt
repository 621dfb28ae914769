-- Where the bytes of a unit stand.
use Rattle.std.specs.Prelude.{ℕ, ◌+◌, ◌-◌, List, slice_index, slice_range}
use Rattle.block.specs.declared.header.Header.{Header}

-- from the start of unit n to its check, which is the two bytes before the next start
abbrev pub bytes_of_unit : Header → List ℕ → ℕ → List ℕ
bytes_of_unit h block n = slice_range block (slice_index h.starts n) (slice_index h.starts (n + 1) - 2)
