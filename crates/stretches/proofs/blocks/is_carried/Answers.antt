-- A block that is repaired whole, and whose units are good, carries a super frame; and no other does.
use Rattle.std.proofs.Common.{arith, sym, ◌∙◌}
use Rattle.std.proofs.lemmas.Bool.{false≢true}
use Rattle.stretches.proofs.Judging.{carried, carried_not_refused, carried_read, read_long}
use Rattle.stretches.proofs.blocks.is_carried.Goals as goal

pub all_units_good-requires : goal.all_units_good-requires
all_units_good-requires c = read_long c.args.size c.args.block.now c.read_block.new.work c.in-Ok.opened c.in-Ok.repair c.in-Ok.ensures

pub returns-in_default : goal.returns-in_default
returns-in_default c = (
  λ is. absurd (false≢true is),
  λ w. absurd (carried_not_refused c.args.size c.args.wrong_bytes c.args.block.now c.in_default.field-0 c.in_default.ensures w),
)

pub returns-else-changes : goal.returns-else-changes
returns-else-changes c = (
  λ is. absurd (false≢true (sym c.if-changes.false ∙ is)),
  λ w. c.changes.ensures.1 (carried_read c.args.size c.args.wrong_bytes c.args.block.now c.read_block.new.work c.in-Ok.opened c.in-Ok.repair c.in-Ok.ensures w).changes,
)

pub returns-then-changes : goal.returns-then-changes
returns-then-changes c = (
  λ good.
      let whole = c.changes.ensures.0 c.if-changes.true in
      carried c.args.size c.args.wrong_bytes c.args.block.now c.read_block.new.work c.in-Ok.opened c.in-Ok.repair c.requires.size
      (λ i. omega (arith, c.type_inv.block i)) c.in-Ok.ensures whole.0 whole.1 (c.all_units_good.ensures.0 good),
  λ w.
      c.all_units_good.ensures.1
      (carried_read c.args.size c.args.wrong_bytes c.args.block.now c.read_block.new.work c.in-Ok.opened c.in-Ok.repair c.in-Ok.ensures w).all_good,
)
