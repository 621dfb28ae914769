use Rattle.std.proofs.Common.{◌≡◌, ℕ, ◌+◌, ◌-◌, ◌*◌, ◌≤◌, ◌++◌, length, get_or, take, drop, sym, refl, ap, ◌∙◌, ap₂, append-nil, append_assoc, take-append-drop, length-append, length-drop, arith}
use borrow.Rule.Slice.PartMut.{put_mid}
use Rattle.block.specs.Checks.{unit_check}
use Rattle.block.specs.SuperFrames.{two_bytes, checked_units}
use Rattle.block.specs.Places.{units_in}
use Rattle.block.proofs.Placing.{start-le_end}
use Rattle.block.proofs.UnitChecks.{checked_to, two_bytes_written, length-checked_to, one_more}
use Rattle.block.proofs.writer.OpenWriter.write_unit_checks.Goals.{After-from-end}
use Rattle.block.proofs.writer.OpenWriter.write_unit_checks.Goals as goal

within : (c : After-from-end) → c.from-end.result ≤ 110 * c.args.self.now.settings.size
within c =
    let w = c.args.self.now in
    omega (arith, c.from-end.ensures, start-le_end w.settings w.starts w.added w.placed (c.loop-n.n + 1) (omega arith))

pub slice_bounds-unit_check-end : goal.slice_bounds-unit_check-end
slice_bounds-unit_check-end c =
    omega (arith, within (goal.at.slice_bounds-unit_check-end c).After-from-end, c.args.self.now.placed.apart c.loop-n.n (omega arith))

pub slice_bounds-copy_from_slice-end : goal.slice_bounds-copy_from_slice-end
slice_bounds-copy_from_slice-end c =
    omega (arith, within (goal.at.slice_bounds-copy_from_slice-end c).After-from-end, c.args.self.now.placed.apart c.loop-n.n (omega arith))

pub loop-n-init : goal.loop-n-init
loop-n-init c =
    let b = c.args.block.now in
    let front = get_or c.args.self.now.starts 0 0 in
    record {
      long = refl;
      checked = sym (ap (λ bytes. bytes ++ drop front b) (append-nil (take front b)) ∙ take-append-drop front b);
    }

pub loop-n-preserved : goal.loop-n-preserved
loop-n-preserved c =
    let w = c.args.self.now in
    let b = c.args.block.now in
    let s = w.starts in
    let n = c.loop-n.n in
    let k = (goal.at.loop-n-preserved c).After-from-end in
    let end : c.from-end.result ≡ get_or s (n + 1) 0 = c.from-end.ensures in
    let room : get_or s w.added 0 ≤ length b = omega (arith, start-le_end w.settings s w.added w.placed w.added (omega arith), c.requires.sized) in
    let long : c.from-end.result - 2 - c.from-start.result ≡ get_or s (n + 1) 0 - 2 - get_or s n 0 = omega (arith, end, c.from-start.ensures) in
    let width : c.from-end.result - 2 + 2 - (c.from-end.result - 2) ≡ 2 = omega arith in
    let check = two_bytes (unit_check (take (get_or s (n + 1) 0 - 2 - get_or s n 0) (drop (get_or s n 0) (checked_to b s n ++ drop (get_or s n 0) b)))) in
    let unit = ap₂ (λ (count at : ℕ). take count (drop at c.loop-n.block)) long c.from-start.ensures
    ∙ ap (λ bytes. take (get_or s (n + 1) 0 - 2 - get_or s n 0) (drop (get_or s n 0) bytes)) c.loop-n.invariant.checked in
    let written = c.copy_from_slice.ensures.after ∙ c.to_be_bytes.ensures ∙ two_bytes_written c.unit_check-check.result c.unit_check-check.type_inv
    ∙ ap two_bytes (c.unit_check-check.ensures ∙ ap unit_check unit) in
    let checked = ap₂ (λ (count : ℕ) ys. put_mid (c.from-end.result - 2) count c.loop-n.block ys) width written
    ∙ ap₂ (λ (at : ℕ) bytes. put_mid (at - 2) 2 bytes check) end c.loop-n.invariant.checked
    ∙ one_more b s w.added w.placed.apart room n c.loop-n-test.true in
    record {
      long =
          ap length checked ∙ length-append (checked_to b s (n + 1)) (drop (get_or s (n + 1) 0) b)
          ∙ omega (arith, length-checked_to b s w.added w.placed.apart room (n + 1) (omega arith), length-drop (get_or s (n + 1) 0) b, within k, end, c.requires.sized);
      checked = checked;
    }

pub returns : goal.returns
returns c =
    let w = c.args.self.now in
    let b = c.args.block.now in
    let all : c.loop-n.n ≡ w.added = omega arith in
    c.loop-n.invariant.checked ∙ ap (λ (n : ℕ). checked_to b w.starts n ++ drop (get_or w.starts n 0) b) all
    ∙ append_assoc (take (get_or w.starts 0 0) b) (checked_units (units_in w.starts w.added b)) (drop (get_or w.starts w.added 0) b)
    ∙ ap₂ (λ (front end : ℕ). take front b ++ (checked_units (units_in w.starts w.added b) ++ drop end b)) w.placed.first (w.placed.full c.requires.whole)
