-- What repairing and reading a block says. No public contract speaks of these.
use Rattle.std.specs.Prelude.{◌≡◌, ℕ, ◌<◌, true, List, Ok}
use Rattle.interleaver.specs.declared.repair.Repair.{Repair}
use Rattle.block.specs.declared.header.Header.{Header}
use Rattle.block.specs.declared.reader.Opened.{Opened}
use Rattle.block.specs.Headers.{header, unit_count, check_fits}
use Rattle.block.specs.States.{header_of}
use Rattle.reception.specs.Blocks.{RepairOf}

-- The block is what repairing the received one gives, and its header is read.
pub record Reads (size : ℕ) (received block : List ℕ) (opened : Opened) (repair : Repair) : Type 0 where
  pub repaired : RepairOf size received block repair
  pub header_is : header size block ≡ Ok (header_of opened)

-- the check of every unit is right
abbrev pub AllGood : Header → List ℕ → Type 0
AllGood h block = (n : ℕ) → n < unit_count h → check_fits h block n ≡ true
