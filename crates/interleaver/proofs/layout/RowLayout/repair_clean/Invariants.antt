-- The loop: the rows before are corrected, the others are as they were, and the work buffer is zeros.
use Rattle.std.proofs.Common.{◌≡◌, map}
use Rattle.gf.specs.Fields.{gf256}
use Rattle.gf.specs.Bits.{bits}
use Rattle.codes.specs.Polynomials.{zeros}
use Rattle.interleaver.specs.Rows.{all_corrected}
use Rattle.interleaver.proofs.Progress.{RepairedTo}
use Rattle.interleaver.proofs.layout.RowLayout.repair_clean.Given as goal

abbrev pub invariant-loop-row : goal.invariant-loop-row
invariant-loop-row l = record {
  repaired : RepairedTo l.self.rows l.self.symbols l.self.checks l.row l.initial.block l.block (all_corrected l.changed);
  work : map (λ s. bits 8 s.0) l.work ≡ zeros gf256 512;
}
