use Rattle.std.proofs.Common.{◌≡◌, ℕ, ◌+◌, ◌<◌, ◌++◌, map, length, take, drop, ◌∙◌, sym, ap, arith, length-append, length-take-le}
use lib.ListN.{length-map}
use Rattle.std.proofs.lemmas.List.{take-append-drop}
use Rattle.codes.specs.steps.Elimination.{cells, entries}
use Rattle.codes.proofs.Cells.{front}
use Rattle.codes.proofs.Equations.{kernel_front, values_solved}
use Rattle.codes.proofs.error_values.find_values.Goals as goal

pub returns : goal.returns
unfolding entries
returns g c i h =
    let F = g.F.Field in
    let f = F.field in
    let points = c.args.points.now in
    let m = length points in
    let rows = c.new-matrix.ensures.0 in
    let columns = c.new-matrix.ensures.1 in
    let filled = rw (rows, columns) at c.fill_columns.ensures.filled in
    let written = rw (c.fill_columns.ensures.shape.1 ∙ columns) at c.write_column.ensures.written in
    let head : length (take m c.args.syndromes.now) ≡ m = length-take-le m c.args.syndromes.now (omega (arith, c.requires.sizes)) in
    let sums : (j : ℕ) → j < m → cells f F.mean (m + 1) c.write_column.new.matrix.symbols.now j m ≡ entries f F.mean c.args.syndromes.now j =
    λ j b. written j (omega (arith, head)) ∙ sym (front f F.mean (take m c.args.syndromes.now) (drop m c.args.syndromes.now) j (omega (arith, head)))
    ∙ ap (λ xs. entries f F.mean xs j) (take-append-drop m c.args.syndromes.now) in
    let others = rw (c.fill_columns.ensures.shape.1 ∙ columns) at c.write_column.ensures.others in
    let kernel = rw (c.write_column.ensures.shape.0 ∙ c.fill_columns.ensures.shape.0 ∙ rows, c.write_column.ensures.shape.1 ∙ c.fill_columns.ensures.shape.1 ∙ columns) at c.kernel_vector.ensures in
    let kernel-long : length c.kernel_vector.new.vector ≡ m + 1 = c.kernel_vector.auto.vector ∙ length-take-le (m + 1) c.args.values.now (omega (arith, c.requires.sizes)) in
    let vector = c.kernel_vector.new.vector ++ drop (m + 1) c.args.values.now in
    let long : m < length vector = omega (arith, length-append c.kernel_vector.new.vector (drop (m + 1) c.args.values.now), kernel-long) in
    values_solved g.met.F.Field.laws F.mean m (map F.mean points) (entries f F.mean c.args.syndromes.now)
    (cells f F.mean (m + 1) c.write_column.new.matrix.symbols.now) vector c.normalize.new.vector
    (length-map points F.mean) long (omega (arith, long, c.normalize.auto.vector)) c.requires.apart
    (λ j b r d. others r j (omega arith) (λ e. omega arith) ∙ filled j b r d)
    sums (kernel_front g.met.F.Field.laws F.mean m (m + 1) _ c.kernel_vector.new.vector (drop (m + 1) c.args.values.now) kernel-long kernel) c.normalize.ensures i h
