-- Each unit is accepted and so is sealing; the laws hold wherever the call returns.
use Rattle.std.proofs.Common.{◌≡◌, ℕ, ◌*◌, ◌<◌, [], map, length, get_or, Ok, Err, Result, refl, sym, ap, ◌∙◌, subst, arith}
use lib.ListN.{length-map}
use Rattle.std.proofs.lemmas.List.{get_or-map, take_all}
use Rattle.gf.specs.declared.refusal.Refusal.{Refusal}
use Rattle.block.specs.SuperFrames.{superframe}
use Rattle.block.specs.Writing.{Adds, AddsAll}
use Rattle.block.proofs.CallByCall.{calls_make, sealing_what_was_added}
use Rattle.block.proofs.MakingWhole.{next_accepted, next_added, seal_accepted, made, made_reads, made_by_calls}
use Rattle.block.proofs.SealingHeld.{sealing_what_was_held}
use Rattle.block.proofs.Worked.{examples_hold}
use Rattle.block.proofs.making.make_super_frame.Goals.{After-add, After-seal}
use Rattle.block.proofs.making.make_super_frame.Goals as goal

-- while units are added

within : (c : After-add) → c.loop-unit.unit-index < length (map (λ unit. unit.now) c.args.units.now)
within c = omega (arith, length-map c.args.units.now (λ unit. unit.now), c.loop-unit-test.true)

-- the unit that is added, as the clauses have it
unit : (c : After-add) → (get_or c.args.units.now c.loop-unit.unit-index (record { ref_ptr = (0, 0); now = [] })).now
    ≡ get_or (map (λ unit. unit.now) c.args.units.now) c.loop-unit.unit-index []
unit c = sym (get_or-map (λ unit. unit.now) c.args.units.now c.loop-unit.unit-index (record { ref_ptr = (0, 0); now = [] }) [] c.loop-unit-test.true)

added : (c : After-add) → Adds c.loop-unit.writer c.add.new.self (get_or (map (λ unit. unit.now) c.args.units.now) c.loop-unit.unit-index [])
    c.loop-unit.block c.add.new.block c.add.result
added c = subst (λ u. Adds c.loop-unit.writer c.add.new.self u c.loop-unit.block c.add.new.block c.add.result) (unit c) c.add.ensures

accepted : (c : After-add) → c.add.result ≡ Ok tt
accepted c =
    let s = c.args.settings in
    let units = map (λ unit. unit.now) c.args.units.now in
    next_accepted units c.new-writer.result c.args.block.now (superframe s units) c.loop-unit.unit-index (within c) c.loop-unit.writer c.loop-unit.block
    c.loop-unit.invariant c.add.new.self c.add.new.block
    (calls_make s c.new-writer.result c.args.block.now c.new-writer.ensures (c.in_ok-check_buffer.ensures ∙ ap (λ (n : ℕ). 120 * n) c.size.ensures) units
    c.in_ok-check_units.ensures.1) c.add.result (added c)

never : (answer : Result Unit Refusal) (refusal : Refusal) → answer ≡ Ok tt → answer ≡ Err refusal → ⊥
never answer refusal e f = cc

pub loop-unit-init : goal.loop-unit-init
loop-unit-init c = (refl, refl)

pub returns-in_err-add-clause-makes : goal.returns-in_err-add-clause-makes
returns-in_err-add-clause-makes c =
    let k = (goal.at.returns-in_err-add-clause-makes c).After-add in
    absurd (never c.add.result c.in_err-add.field-0.0 (accepted k) c.in_err-add.was)

pub loop-unit-preserved : goal.loop-unit-preserved
loop-unit-preserved c =
    let k = (goal.at.loop-unit-preserved c).After-add in
    let units = map (λ unit. unit.now) c.args.units.now in
    next_added units c.new-writer.result c.args.block.now (superframe c.args.settings units) c.loop-unit.unit-index (within k) c.loop-unit.writer c.loop-unit.block
    c.loop-unit.invariant c.add.new.self c.add.new.block
    (subst (Adds c.loop-unit.writer c.add.new.self (get_or units c.loop-unit.unit-index []) c.loop-unit.block c.add.new.block) (accepted k) (added k))

-- once all are in

run : (c : After-seal) → AddsAll c.new-writer.result c.args.block.now (map (λ unit. unit.now) c.args.units.now) c.loop-unit.writer c.loop-unit.block
run c =
    let units = map (λ unit. unit.now) c.args.units.now in
    subst (λ us. AddsAll c.new-writer.result c.args.block.now us c.loop-unit.writer c.loop-unit.block)
    (take_all c.loop-unit.unit-index units (omega (arith, length-map c.args.units.now (λ unit. unit.now), c.loop-unit-test.false))) c.loop-unit.invariant

pub returns-in_err-seal-clause-makes : goal.returns-in_err-seal-clause-makes
returns-in_err-seal-clause-makes c =
    let k = (goal.at.returns-in_err-seal-clause-makes c).After-seal in
    absurd (seal_accepted c.args.settings (map (λ unit. unit.now) c.args.units.now) c.args.block.now c.in_ok-check_units.ensures.0 c.in_ok-check_units.ensures.1
    (c.in_ok-check_buffer.ensures ∙ ap (λ (n : ℕ). 120 * n) c.size.ensures) c.new-writer.result c.new-writer.ensures c.loop-unit.writer c.loop-unit.block (run k)
    c.seal.new.block c.in_err-seal.field-0.0.refusal c.in_err-seal.ensures.0)

pub returns-clause-makes : goal.returns-clause-makes
returns-clause-makes c =
    let k = (goal.at.returns-clause-makes c).After-seal in
    made c.args.settings (map (λ unit. unit.now) c.args.units.now) c.args.block.now c.in_ok-check_units.ensures.0 c.in_ok-check_units.ensures.1
    (c.in_ok-check_buffer.ensures ∙ ap (λ (n : ℕ). 120 * n) c.size.ensures) c.new-writer.result c.new-writer.ensures c.loop-unit.writer c.loop-unit.block (run k)
    c.seal.new.block c.in_ok-seal.field-0 c.in_ok-seal.ensures

pub returns-clause-reads : goal.returns-clause-reads
returns-clause-reads c =
    let k = (goal.at.returns-clause-reads c).After-seal in
    made_reads c.args.settings (map (λ unit. unit.now) c.args.units.now) c.args.block.now c.in_ok-check_units.ensures.0 c.in_ok-check_units.ensures.1
    (c.in_ok-check_buffer.ensures ∙ ap (λ (n : ℕ). 120 * n) c.size.ensures) c.new-writer.result c.new-writer.ensures c.loop-unit.writer c.loop-unit.block (run k)
    c.seal.new.block c.in_ok-seal.field-0 c.in_ok-seal.ensures (λ i. omega (arith, c.type_inv.block i))

pub returns-clause-calls : goal.returns-clause-calls
returns-clause-calls c =
    let k = (goal.at.returns-clause-calls c).After-seal in
    made_by_calls c.args.settings (map (λ unit. unit.now) c.args.units.now) c.args.block.now c.in_ok-check_units.ensures.0 c.in_ok-check_units.ensures.1
    (c.in_ok-check_buffer.ensures ∙ ap (λ (n : ℕ). 120 * n) c.size.ensures) c.new-writer.result c.new-writer.ensures c.loop-unit.writer c.loop-unit.block (run k)
    c.seal.new.block c.in_ok-seal.field-0 c.in_ok-seal.ensures

-- the laws

pub returns-in_err-check_buffer-clause-added : goal.returns-in_err-check_buffer-clause-added
returns-in_err-check_buffer-clause-added c = sealing_what_was_added

pub returns-in_err-check_buffer-clause-again : goal.returns-in_err-check_buffer-clause-again
returns-in_err-check_buffer-clause-again c = sealing_what_was_held

pub returns-in_err-check_buffer-clause-examples : goal.returns-in_err-check_buffer-clause-examples
returns-in_err-check_buffer-clause-examples c = examples_hold

pub returns-in_err-check_units-clause-added : goal.returns-in_err-check_units-clause-added
returns-in_err-check_units-clause-added c = sealing_what_was_added

pub returns-in_err-check_units-clause-again : goal.returns-in_err-check_units-clause-again
returns-in_err-check_units-clause-again c = sealing_what_was_held

pub returns-in_err-check_units-clause-examples : goal.returns-in_err-check_units-clause-examples
returns-in_err-check_units-clause-examples c = examples_hold

pub returns-in_err-add-clause-added : goal.returns-in_err-add-clause-added
returns-in_err-add-clause-added c = sealing_what_was_added

pub returns-in_err-add-clause-again : goal.returns-in_err-add-clause-again
returns-in_err-add-clause-again c = sealing_what_was_held

pub returns-in_err-add-clause-examples : goal.returns-in_err-add-clause-examples
returns-in_err-add-clause-examples c = examples_hold

pub returns-in_err-seal-clause-added : goal.returns-in_err-seal-clause-added
returns-in_err-seal-clause-added c = sealing_what_was_added

pub returns-in_err-seal-clause-again : goal.returns-in_err-seal-clause-again
returns-in_err-seal-clause-again c = sealing_what_was_held

pub returns-in_err-seal-clause-examples : goal.returns-in_err-seal-clause-examples
returns-in_err-seal-clause-examples c = examples_hold

pub returns-clause-added : goal.returns-clause-added
returns-clause-added c = sealing_what_was_added

pub returns-clause-again : goal.returns-clause-again
returns-clause-again c = sealing_what_was_held

pub returns-clause-examples : goal.returns-clause-examples
returns-clause-examples c = examples_hold
