use borrow.Author.Count.{below_more}
use Rattle.std.proofs.Common.{◌≡◌, ℕ, ◌+◌, ◌-◌, ◌<◌, length, take, drop, ap, ◌∙◌, zero-add, arith}
use mathlib.Core.List.{reverse}
use Rattle.std.proofs.lemmas.List.{length_push, get_or-reverse, length-reverse}
use Rattle.std.proofs.lemmas.List.FromFn.{length-enumerate_from, get_or-enumerate_from}
use Rattle.std.proofs.lemmas.Iterator.Adapters.{YieldsList-from_rev_slice}
use Rattle.std.proofs.lemmas.Iterator.Consumers.{YieldsList-from_enumerate, YieldsList-turn}
use Rattle.std.proofs.lemmas.Simd.{length-chunk}
use Rattle.codes.specs.steps.Elimination.{cells, entries}
use Rattle.codes.proofs.Cells.{part}
use Rattle.codes.proofs.locator.fill_row.Goals as goal

pub loop-column-preserved : goal.loop-column-preserved
loop-column-preserved g c =
    let F = g.F.Field in
    let f = F.field in
    let degree = c.rows-degree.result in
    let row = c.args.row in
    let k = length c.loop-column.yielded in
    let shown = take (row + degree + 1 - row) (drop row c.args.syndromes.now) in
    let t = YieldsList-turn (YieldsList-from_enumerate (YieldsList-from_rev_slice shown (cc)) (cc)) c.loop-column.yielded c.loop-column.column-iterator c.loop-column.yielded_by c.next.result c.next.new.self (c.in-Some.column, c.in-Some.syndrome) c.in-Some.is c.next.ensures.steps in
    let long = length-chunk row (row + degree + 1 - row) c.args.syndromes.now (omega (arith, c.requires, c.rows-degree.ensures)) in
    let here : k < length shown = omega (arith, t.0, length-enumerate_from 0 (reverse shown), length-reverse shown) in
    let item = t.1 ∙ get_or-enumerate_from 0 (reverse shown) k (c.in-Some.column, c.in-Some.syndrome.now) (omega (arith, here, length-reverse shown)) in
    let column : c.in-Some.column ≡ k = ap (λ p. p.0) item ∙ zero-add k in
    let back : length shown - 1 - k ≡ degree - k = omega (arith, long) in
    let symbol =
    part f F.mean c.args.syndromes.now row (row + degree + 1 - row) (length shown - 1 - k) c.in-Some.syndrome.now (omega (arith, long, here))
    (omega (arith, long, here, c.requires, c.rows-degree.ensures)) (ap (λ p. p.1) item ∙ get_or-reverse shown k c.in-Some.syndrome.now here) in
    let now = cells f F.mean (degree + 1) c.put.new.self.symbols.now in
    let s = entries f F.mean c.args.syndromes.now in
    let width : c.loop-column.matrix.columns ≡ degree + 1 = omega (arith, c.loop-column.invariant.1, c.requires, c.rows-degree.ensures) in
    let written = rw (width, column) at c.put.ensures.written in (
      c.put.ensures.shape.0 ∙ c.loop-column.invariant.0,
      c.put.ensures.shape.1 ∙ c.loop-column.invariant.1,
      rw (length_push c.loop-column.yielded (c.in-Some.column, c.in-Some.syndrome))
          (below_more (λ q. now row q ≡ s (row + (degree - q))) k
          (λ q b. written.columns row q (omega (arith, here, long)) (λ e. omega arith) ∙ c.loop-column.invariant.2 q b)
          (written.here ∙ symbol ∙ ap (λ (n : ℕ). s (row + n)) back)),
      λ r q b d. written.rows r q b d ∙ c.loop-column.invariant.3 r q b d,
    )
