-- One column more is written, and no other row; where all are, the row is the word.
use Rattle.std.proofs.Common.{get_or, sym, ◌∙◌, arith, below_more, get_or-set_other, get_or-set_same}
use lib.ListN.{length-map}
use Rattle.std.proofs.lemmas.List.{get_or-map}
use Rattle.gf.specs.declared.gf256.Gf256.{Gf256}
use Rattle.interleaver.specs.Rows.{place_of}
use Rattle.interleaver.specs.steps.OneRow.{stored}
use Rattle.interleaver.proofs.Places.{place_within, same_place, row_is, same_row}
use Rattle.interleaver.proofs.layout.RowLayout.scatter.Goals as goal

pub loop-column-preserved : goal.loop-column-preserved
loop-column-preserved c =
    let rows = c.args.self.now.rows in
    let row = c.args.row in
    let word = c.args.word.now in
    let block = c.loop-column.block in
    let column = c.loop-column.column in
    let byte = (get_or word column (record { 0 = 0 })).0 in
    let within = place_within rows c.args.self.now.symbols row column (omega arith) (omega arith) in
    rw c.place.ensures (
      below_more _ _
          (λ k h. get_or-set_other block (place_of rows row column) (place_of rows row k) byte 0
          (λ e. omega (arith, (same_place rows row k row column (omega arith) (omega arith) e).1)) ∙ c.loop-column.invariant.0 k h)
          (get_or-set_same block (place_of rows row column) byte 0 (omega arith)
          ∙ sym (get_or-map (λ (s : Gf256). s.0) word column (record { 0 = 0 }) 0 (omega arith))),
      λ other k h ne. get_or-set_other block (place_of rows row column) (place_of rows other k) byte 0
          (λ e. ne (same_place rows other k row column h (omega arith) e).0) ∙ c.loop-column.invariant.1 other k h ne,
    )

pub returns : goal.returns
returns c =
    let rows = c.args.self.now.rows in
    let symbols = c.args.self.now.symbols in
    let word = c.args.word.now in
    let block = c.loop-column.block in
    record {
      long = omega arith;
      here = sym (row_is rows symbols block (stored word) c.args.row (omega (arith, length-map word (λ (s : Gf256). s.0)))
          (λ column h. sym (c.loop-column.invariant.0 column (omega arith))));
      others = λ other h ne. same_row rows symbols block c.args.block.now other (λ column k. c.loop-column.invariant.1 other column h ne);
    }
