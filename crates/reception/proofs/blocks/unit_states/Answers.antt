-- One unit more has its state; where all have, these are the states.
use Rattle.std.proofs.Common.{None, arith}
use lib.ListN.{length-set}
use Rattle.std.proofs.lemmas.List.Edits.{fill_by_more}
use Rattle.std.proofs.lemmas.List.FromFn.{fill_by_all}
use Rattle.reception.specs.Blocks.{state_of_unit}
use Rattle.reception.proofs.blocks.unit_states.Goals as goal

pub loop-n-preserved : goal.loop-n-preserved
loop-n-preserved c =
    let state = state_of_unit c.args.opened.now.header c.args.block.now in
    let states = c.loop-n.states in (
      rw length-set c.loop-n.invariant.0,
      rw c.unit_state.ensures (fill_by_more state states c.loop-n.n None (omega arith) c.loop-n.invariant.1),
    )

pub returns : goal.returns
returns c =
    fill_by_all (state_of_unit c.args.opened.now.header c.args.block.now) c.loop-n.states 6 None c.loop-n.invariant.0 (λ k h. c.loop-n.invariant.1 k (omega arith))
