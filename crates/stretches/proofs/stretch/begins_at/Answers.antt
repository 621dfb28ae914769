-- Five frames for each super frame before this place, or the place is none of theirs.
use Rattle.std.proofs.Common.{◌-◌, ◌/◌, ◌%◌, eqb-true, eq-eqb, arith}
use Rattle.stretches.proofs.stretch.begins_at.Goals as goal

pub returns-then-start-place : goal.returns-then-start-place
returns-then-start-place c =
    let over = c.args.place - c.args.start in (
      λ is. (over / 5, omega (arith, eqb-true (over % 5) 0 is, c.if-start-place.true)),
      λ b. eq-eqb (over % 5) 0 (omega (arith, b.1)),
    )
