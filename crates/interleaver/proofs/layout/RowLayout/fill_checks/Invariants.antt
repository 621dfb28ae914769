-- The loop: the rows before are filled, the others are as they were, and the work buffer is zeros.
use Rattle.std.proofs.Common.{◌≡◌, map}
use Rattle.gf.specs.Fields.{gf256}
use Rattle.gf.specs.Bits.{bits}
use Rattle.codes.specs.Polynomials.{zeros}
use Rattle.interleaver.proofs.Filling.{FilledTo}
use Rattle.interleaver.proofs.layout.RowLayout.fill_checks.Given as goal

abbrev pub invariant-loop-row : goal.invariant-loop-row
invariant-loop-row l = record {
  filled : FilledTo l.self.rows l.self.symbols l.self.checks l.row l.initial.block l.block;
  work : map (λ s. bits 8 s.0) l.work ≡ zeros gf256 512;
}
