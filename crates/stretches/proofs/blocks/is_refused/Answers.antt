-- A block is refused exactly where it is not legible.
use Rattle.std.proofs.Common.{sym, ◌∙◌}
use Rattle.stretches.proofs.Judging.{refused_or_legible}
use Rattle.stretches.proofs.blocks.is_refused.Goals as goal

pub returns : goal.returns
returns c =
    let r = refused_or_legible c.args.size c.args.block.now c.read_block.new.work c.read_block.result c.read_block.ensures in
    (λ is. r.0 (sym c.is_err.ensures.value ∙ is), λ none. c.is_err.ensures.value ∙ r.1 none)
