-- What is true of repaired blocks and of written super frames.
use Rattle.std.proofs.Common.{◌≡◌, ℕ, ◌*◌, ◌≤◌, List, length, None, Ok, refl, arith}
use Rattle.interleaver.specs.declared.repair.Repair.{Repair}
use Rattle.interleaver.specs.Rows.{wrong, AreBytes}
use Rattle.interleaver.proofs.Repairing as interleaver
use Rattle.interleaver.proofs.Repaired as repaired
use Rattle.block.specs.declared.header.Header.{Header}
use Rattle.block.specs.Headers.{header}
use Rattle.block.specs.Laws.{Flawless}
use Rattle.block.proofs.SealingHeld.{header-flawless}
use Rattle.reception.specs.Blocks.{RepairOf, SuperFrame, Carries}

-- 120 bytes for each row, counted either way
turned : (size n : ℕ) → n ≡ 120 * size → n ≡ size * 120
turned size n e = omega arith

-- a block is repaired in one way
pub repaired_once : (size : ℕ) (received block block′ : List ℕ) (repair repair′ : Repair) → RepairOf size received block repair
    → RepairOf size received block′ repair′ → (block ≡ block′) × (repair ≡ repair′)
repaired_once size received block block′ repair repair′ p q =
    interleaver.repaired_once size 120 10 refl received block block′ repair repair′ (turned size (length received) p.long) p.bytes q.bytes p.rows q.rows

-- and always in one
pub repaired_somehow : (size : ℕ) (received : List ℕ) → 1 ≤ size → size ≤ 24 → length received ≡ 120 * size → AreBytes received
    → (block : List ℕ) × (repair : Repair) × RepairOf size received block repair
repaired_somehow size received some few long bytes =
    let r = repaired.repaired_somehow size 120 10 refl received (turned size (length received) long) bytes in
    (r.0, r.1, record { long = long; bytes = r.2; rows = r.3 })

-- few wrong bytes are corrected: the repaired block is the written one
pub carried_repair : (size : ℕ) (received : List ℕ) (written : SuperFrame) → Carries size received written
    → RepairOf size received written.block (record { changed = wrong received written.block; rows_left = 0; lowest_left = None })
carried_repair size received written c = record {
  long = c.received_long;
  bytes = c.written_bytes;
  rows =
      repaired.few_wrong_repaired size 120 10 refl received written.block (turned size (length received) c.received_long)
      (turned size (length written.block) c.written_long) c.received_bytes c.written_bytes c.flawless.codewords (λ i h. omega (arith, c.few_wrong i h));
}

-- a written super frame reads as its header
pub written_reads : (size : ℕ) (block : List ℕ) (h : Header) → length block ≡ 120 * size → AreBytes block → Flawless size block h → header size block ≡ Ok h
written_reads size block h long bytes flawless = header-flawless size block h bytes flawless
