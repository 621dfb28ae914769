use Rattle.std.proofs.Common.{List, MatchResult, arith, subst, ℕ}
use Rattle.reception.specs.Blocks.{Delivers, Misread}
use Rattle.reception.proofs.blocks.read_block.Goals as goal

pub returns : goal.returns
returns c =
    subst (λ (received : List ℕ). MatchResult c.open_block.result (λ d. Delivers c.args.size received d c.open_block.new.block) (Misread c.args.size received))
    c.copy_from_slice.ensures.after (c.open_block.ensures (λ i. omega (arith, c.type_inv.block i)))
