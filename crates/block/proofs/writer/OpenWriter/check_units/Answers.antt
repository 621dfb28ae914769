use Rattle.std.proofs.Common.{◌≡◌, ℕ, ◌≤◌, [], map, length, get_or, Some, None, Err, sym, ap, ◌∙◌, subst, arith}
use lib.ListN.{length-map}
use Rattle.std.proofs.lemmas.List.{get_or-map}
use Rattle.std.proofs.lemmas.Result.{err_from_is_err_and}
use Rattle.gf.specs.Refusals.{first_refusal}
use Rattle.block.specs.SuperFrames.{layout_for}
use Rattle.block.specs.Writing.{add_complaints, OneMore}
use Rattle.block.specs.steps.Writing.{Admits}
use Rattle.block.proofs.PlacingAll.{PlacedTo, placed_none, placed_more, refused_at, too_few, placed_all}
use Rattle.block.proofs.writer.OpenWriter.check_units.Goals.{After-reserve}
use Rattle.block.proofs.writer.OpenWriter.check_units.Goals as goal

pub loop-unit-init : goal.loop-unit-init
loop-unit-init c =
    placed_none c.args.settings (map (λ unit. unit.now) c.args.units.now) c.new-writer.result c.new-writer.ensures.settings c.new-writer.ensures.empty

-- how long the next unit is
long : (c : After-reserve) → length (get_or c.args.units.now c.loop-unit.unit-index (record { ref_ptr = (0, 0); now = [] })).now
    ≡ length (get_or (map (λ unit. unit.now) c.args.units.now) c.loop-unit.unit-index [])
long c = ap length (sym (get_or-map (λ unit. unit.now) c.args.units.now c.loop-unit.unit-index (record { ref_ptr = (0, 0); now = [] }) [] c.loop-unit-test.true))

few : (c : After-reserve) → length (map (λ unit. unit.now) c.args.units.now) ≤ (layout_for c.args.settings).units
few c =
    omega (
      arith,
      length-map c.args.units.now (λ unit. unit.now),
      ap (λ l. l.units) c.layout.ensures,
      ap (λ s. (layout_for s).units) c.new-writer.ensures.settings,
    )

pub returns-in_err-reserve : goal.returns-in_err-reserve
returns-in_err-reserve c =
    let p = err_from_is_err_and c.from_residual.result c.from_residual.ensures.1 in
    let units = map (λ unit. unit.now) c.args.units.now in
    let k = (goal.at.returns-in_err-reserve c).After-reserve in
    let w = c.loop-unit.writer in
    let refused = refused_at c.args.settings units c.loop-unit.unit-index w c.in_err-reserve.field-0.0
    (omega (arith, length-map c.args.units.now (λ unit. unit.now))) (few k) c.loop-unit.invariant
    (subst (λ (n : ℕ). first_refusal (add_complaints w n) ≡ Some c.in_err-reserve.field-0.0) (long k) c.in_err-reserve.ensures.0) in
    subst (Admits c.args.settings units) (sym (p.1 ∙ ap Err p.2)) refused

pub loop-unit-preserved : goal.loop-unit-preserved
loop-unit-preserved c =
    let units = map (λ unit. unit.now) c.args.units.now in
    let k = (goal.at.loop-unit-preserved c).After-reserve in
    let w = c.loop-unit.writer in
    placed_more c.args.settings units c.loop-unit.unit-index w c.reserve.new.self
    (omega (arith, length-map c.args.units.now (λ unit. unit.now))) (few k) c.loop-unit.invariant
    (subst (λ (n : ℕ). first_refusal (add_complaints w n) ≡ None) (long k) c.in_ok-reserve.ensures.0)
    (subst (λ (n : ℕ). OneMore w n c.reserve.new.self) (long k) c.in_ok-reserve.ensures.1.1)

pub returns-then-writer-layout : goal.returns-then-writer-layout
returns-then-writer-layout c =
    let units = map (λ unit. unit.now) c.args.units.now in
    let p = c.loop-unit.invariant in
    let all : c.loop-unit.unit-index ≡ length units = omega (arith, length-map c.args.units.now (λ unit. unit.now)) in
    too_few c.args.settings units c.loop-unit.writer (subst (λ (n : ℕ). PlacedTo c.args.settings units n c.loop-unit.writer) all p)
    (omega (arith, ap (λ l. l.units) c.layout-2.ensures, ap (λ s. (layout_for s).units) p.settings))

pub returns : goal.returns
returns c =
    let units = map (λ unit. unit.now) c.args.units.now in
    let p = c.loop-unit.invariant in
    let long = length-map c.args.units.now (λ unit. unit.now) in
    let all : c.loop-unit.unit-index ≡ length units = omega (arith, long) in
    placed_all c.args.settings units c.loop-unit.writer (subst (λ (n : ℕ). PlacedTo c.args.settings units n c.loop-unit.writer) all p)
    (omega (arith, long, ap (λ l. l.units) c.layout.ensures, ap (λ s. (layout_for s).units) c.new-writer.ensures.settings))
    (omega (arith, ap (λ l. l.units) c.layout-2.ensures, ap (λ s. (layout_for s).units) p.settings))
