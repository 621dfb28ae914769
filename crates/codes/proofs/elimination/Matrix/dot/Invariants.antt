use Rattle.std.proofs.Common.{◌≡◌, ◌+◌, length}
use Rattle.codes.specs.steps.Elimination.{cells, entries, sent}
use Rattle.codes.proofs.elimination.Matrix.dot.Given as goal

-- the sum over the columns before
abbrev pub invariant-loop-entry : goal.invariant-loop-entry
invariant-loop-entry g l =
    let F = g.F.Field in
    let m = l.fn.self in
    F.mean l.sum ≡ sent F.field (l.fn.from + length l.yielded) (cells F.field F.mean m.columns m.symbols.now) l.row (entries F.field F.mean l.fn.vector)
