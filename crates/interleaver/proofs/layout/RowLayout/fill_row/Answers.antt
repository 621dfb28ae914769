-- The word that is read is filled, and so is the row.
use Rattle.std.proofs.Common.{sym, subst}
use Rattle.gf.specs.Fields.{gf256}
use Rattle.gf.specs.Bits.{bits}
use Rattle.codes.specs.Codewords.{Filled}
use Rattle.interleaver.specs.Rows.{row_of}
use Rattle.interleaver.proofs.Calls.{row_filled}
use Rattle.interleaver.proofs.layout.RowLayout.fill_row.Goals as goal

pub returns-clause-filled : goal.returns-clause-filled
returns-clause-filled c =
    let l = c.args.self.now in
    let w = c.encode in
    subst (Filled gf256 (bits 8) l.checks (row_of l.rows l.symbols c.args.block.now c.args.row)) (sym c.scatter.ensures.here)
    (row_filled l.rows l.symbols l.checks c.args.row c.args.block.now c.gather.new.word w.new.word c.args.work.now w.new.work
    c.gather.ensures l.shape c.requires.work w.result w.ensures)
