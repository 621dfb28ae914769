-- What reading a block answers, state by state.
use Rattle.std.specs.Prelude.{◌≡◌, ℕ, ◌+◌, ◌-◌, Bool, not, List, [], ◌∷◌, Some, None, Ok, Err, Option, Result, MatchOption, MatchResult, slice_index, slice_range}
use Rattle.gf.specs.declared.refusal.Refusal.{Refusal}
use Rattle.gf.specs.declared.refusal.Refusal.TheVariants.{Index, UnitCheck}
use Rattle.gf.specs.Refusals.{first_refusal, Answers, of_size}
use Rattle.interleaver.specs.declared.repair.Repair.{Repair}
use Rattle.block.specs.declared.header.Header.{Header}
use Rattle.block.specs.declared.reader.Received.{Received}
use Rattle.block.specs.declared.reader.Repaired.{Repaired}
use Rattle.block.specs.declared.reader.Opened.{Opened}
use Rattle.block.specs.declared.reader.AccessUnit.{AccessUnit}
use Rattle.block.specs.declared.refused.Refused.{Refused}
use Rattle.block.specs.BlockRows.{RowsRepaired, RowsStopped}
use Rattle.block.specs.Headers.{of_buffer, header, there, check_fits}
use Rattle.block.specs.Laws.{Clean}

-- A size of 1 to 24 is received; or it is refused.
abbrev pub Receives : ℕ → Result Received Refusal → Type 0
Receives size answer = Answers (of_size size []) (λ s. s.size ≡ size) answer

-- The rows of the block are repaired; or the buffer is refused, and state and buffer are as they were.
abbrev pub Repairs : Received → List ℕ → List ℕ → Result (Repaired × Repair) (Refused Received) → Type 0
Repairs s before after answer =
    MatchResult answer
    (λ v. (first_refusal (of_buffer s.size before []) ≡ None) × (v.0.size ≡ s.size) × RowsRepaired s.size before after v.1)
    (λ r. (first_refusal (of_buffer s.size before []) ≡ Some r.refusal) × (r.state ≡ s) × (after ≡ before))

-- Every row of the block is corrected; or, with nothing said, the block is not clean, and the repair stopped; or the buffer is refused, and
-- state and buffer are as they were.
abbrev pub RepairsClean : Received → List ℕ → List ℕ → Result (Option (Repaired × Repair)) (Refused Received) → Type 0
RepairsClean s before after answer =
    MatchResult answer
    (λ outcome. (first_refusal (of_buffer s.size before []) ≡ None)
    × MatchOption outcome ((Clean s.size before → ⊥) × RowsStopped s.size before after)
    (λ v. (v.0.size ≡ s.size) × RowsRepaired s.size before after v.1 × (v.1.rows_left ≡ 0)))
    (λ r. (first_refusal (of_buffer s.size before []) ≡ Some r.refusal) × (r.state ≡ s) × (after ≡ before))

-- The header of the block is read; or the first refusal is answered, and the state handed back.
abbrev pub Opens : Repaired → List ℕ → Result Opened (Refused Repaired) → Type 0
Opens s block answer =
    MatchResult answer (λ o. header s.size block ≡ Ok o.header) (λ r. (header s.size block ≡ Err r.refusal) × (r.state ≡ s))

-- what the header of an opened block says
abbrev pub header_of : Opened → Header
header_of o = o.header

-- the refusals of asking for unit n, each with its condition
abbrev pub unit_complaints : Header → List ℕ → ℕ → List (Bool × Refusal)
unit_complaints h block n =
    of_buffer h.size block ((not (there h n), Index) ∷ (not (check_fits h block n), UnitCheck n) ∷ [])

-- Unit n is the bytes of the block from its start up to its check, which is right; or the first refusal is answered.
abbrev pub FindsUnit : Opened → List ℕ → ℕ → Result AccessUnit Refusal → Type 0
FindsUnit o block n answer =
    let h = o.header in
    let begin = slice_index h.starts n in
    Answers (unit_complaints h block n)
    (λ u. (u.place ≡ begin) × (u.bytes.now ≡ slice_range block begin (slice_index h.starts (n + 1) - 2))) answer
