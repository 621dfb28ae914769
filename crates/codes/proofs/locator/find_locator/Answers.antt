use Rattle.std.proofs.Common.{◌≡◌, ℕ, ◌+◌, ◌-◌, ◌/◌, length, ap, ◌∙◌, arith}
use Rattle.codes.specs.steps.Elimination.{cells, entries}
use Rattle.codes.proofs.Equations.{locator_solved}
use Rattle.codes.proofs.locator.find_locator.Goals as goal

pub returns : goal.returns
returns g c =
    let F = g.F.Field in
    let t = length c.args.syndromes.now / 2 in
    let degree : length c.args.locator.now - 1 ≡ t = omega (arith, c.requires.long) in
    let rows = c.new-matrix.ensures.0 ∙ degree in
    let columns = c.new-matrix.ensures.1 ∙ ap (λ (n : ℕ). n + 1) degree in
    let long : length c.kernel_vector.new.vector ≡ t + 1 = omega (arith, c.kernel_vector.auto.vector, c.requires) in
    let filled = rw rows at c.fill_rows.ensures.filled in
    let kernel = rw (c.fill_rows.ensures.shape.0 ∙ rows, c.fill_rows.ensures.shape.1 ∙ columns) at c.kernel_vector.ensures in
    locator_solved g.met.F.Field.laws F.mean t (entries F.field F.mean c.args.syndromes.now)
    (cells F.field F.mean (t + 1) c.fill_rows.new.matrix.symbols.now) c.kernel_vector.new.vector long filled kernel
