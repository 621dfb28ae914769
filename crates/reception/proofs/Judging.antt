-- What repairing a block decides: a delivery is clean where the block is, and none is legible that is missed.
use Rattle.std.proofs.Common.{◌≡◌, ℕ, ◌*◌, List, length, Option, Ok, Err, Result, MatchOption, MatchResult, sym, ap, ◌∙◌, subst, arith}
use Rattle.std.specs.Result.{result_ok}
use Rattle.gf.specs.declared.refusal.Refusal.{Refusal}
use Rattle.interleaver.specs.declared.repair.Repair.{Repair}
use Rattle.interleaver.specs.Rows.{AreBytes}
use Rattle.block.specs.BlockRows.{RowsRepaired}
use Rattle.block.specs.Headers.{header}
use Rattle.block.specs.Laws.{Clean}
use Rattle.reception.specs.declared.answers.Delivery.{Delivery}
use Rattle.reception.specs.Blocks.{RepairOf, Delivers, Misread, IsLegible, IsCleanAndLegible}
use Rattle.reception.proofs.RepairedBlocks.{repaired_once}

-- a header is not both right and refused
ok_not_err : {A : Type 0} (answer : Result A Refusal) (value : A) (refusal : Refusal) → answer ≡ Ok value → answer ≡ Err refusal → ⊥
ok_not_err answer value refusal p q = let z : ◌≡◌ {A = ℕ} 0 1 = cc in omega (arith, z)

pub never_both : (size : ℕ) (received : List ℕ) (refusal : Refusal) → Misread size received refusal → IsLegible size received → ⊥
never_both size received refusal m l =
    let legible = l.1 in
    let same = repaired_once size received m.block legible.repaired m.repair legible.repair m.repaired
    (record { long = m.repaired.long; bytes = legible.bytes; rows = legible.rows }) in
    ok_not_err (header size m.block) l.0 refusal (ap (header size) same.0 ∙ legible.right) m.refused

pub none_left : (size : ℕ) (received block : List ℕ) (d : Delivery) → Delivers size received d block → Clean size received → d.repair.rows_left ≡ 0
none_left size received block d delivers clean =
    let same = repaired_once size received block clean.repaired d.repair clean.repair delivers.repaired
    (record { long = clean.long; bytes = clean.bytes; rows = clean.rows }) in
    ap (λ (repair : Repair). repair.rows_left) same.1 ∙ clean.none_left

-- the repaired rows of a received block, whatever its size is called
pub repair_of : (made size : ℕ) (received block : List ℕ) (repair : Repair) → made ≡ size → length received ≡ 120 * size → AreBytes block
    → RowsRepaired made received block repair → RepairOf size received block repair
repair_of made size received block repair e long bytes rows =
    record { long = long; bytes = bytes; rows = subst (λ (n : ℕ). RowsRepaired n received block repair) e rows }

-- what is read of a block with no row left
pub read_clean : (size : ℕ) (received block : List ℕ) (repair : Repair) (answer : Result Delivery Refusal) (outcome : Option Delivery)
    → RepairOf size received block repair → repair.rows_left ≡ 0
    → MatchResult answer (λ d. Delivers size received d block) (Misread size received) → outcome ≡ result_ok answer
    → MatchOption outcome (IsCleanAndLegible size received → ⊥) (λ d. Delivers size received d block × (d.repair.rows_left ≡ 0))
read_clean size received block repair answer outcome r none read is =
    subst (λ o. MatchOption o (IsCleanAndLegible size received → ⊥) (λ d. Delivers size received d block × (d.repair.rows_left ≡ 0))) (sym is)
    (by answer read)
  where
    by : (answer : Result Delivery Refusal) → MatchResult answer (λ d. Delivers size received d block) (Misread size received)
        → MatchOption (result_ok answer) (IsCleanAndLegible size received → ⊥)
        (λ d. Delivers size received d block × (d.repair.rows_left ≡ 0))
    by (Ok d) delivers = (
      delivers,
      ap (λ (done : Repair). done.rows_left) (repaired_once size received block block d.repair repair delivers.repaired r).1 ∙ none,
    )
    by (Err refusal) misses = λ both. never_both size received refusal misses both.1
