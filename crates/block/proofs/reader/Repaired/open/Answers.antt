use Rattle.block.proofs.OpeningSealed.{opening_what_was_sealed}
use Rattle.block.proofs.reader.Repaired.open.Goals as goal

pub returns-in-Ok-clause-sealed : goal.returns-in-Ok-clause-sealed
returns-in-Ok-clause-sealed c = opening_what_was_sealed

pub returns-in-Err-clause-sealed : goal.returns-in-Err-clause-sealed
returns-in-Err-clause-sealed c = opening_what_was_sealed
