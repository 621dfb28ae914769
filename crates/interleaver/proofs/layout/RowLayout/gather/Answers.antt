-- One column more is read; where all are, the word is the row.
use Rattle.std.proofs.Common.{ℕ, get_or, arith}
use lib.ListN.{length-map}
use Rattle.std.proofs.lemmas.List.{map-set}
use Rattle.std.proofs.lemmas.List.Edits.{fill_by_more}
use Rattle.gf.specs.declared.gf256.Gf256.{Gf256}
use Rattle.interleaver.specs.Rows.{place_of}
use Rattle.interleaver.specs.steps.OneRow.{stored}
use Rattle.interleaver.proofs.Places.{row_is}
use Rattle.interleaver.proofs.layout.RowLayout.gather.Goals as goal

pub loop-column-preserved : goal.loop-column-preserved
loop-column-preserved c =
    let block = c.args.block.now in
    let word = c.loop-column.word in
    let column = c.loop-column.column in
    let byte = λ (k : ℕ). get_or block (place_of c.args.self.now.rows c.args.row k) 0 in
    let long = length-map word (λ (s : Gf256). s.0) in
    rw c.place.ensures (λ k h. rw map-set (fill_by_more byte (stored word) column 0 (omega arith) c.loop-column.invariant k h))

pub returns : goal.returns
returns c =
    let word = c.loop-column.word in
    row_is c.args.self.now.rows c.args.self.now.symbols c.args.block.now (stored word) c.args.row
    (omega (arith, length-map word (λ (s : Gf256). s.0))) (λ column h. c.loop-column.invariant column (omega arith))
