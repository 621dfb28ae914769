use Rattle.codes.specs.steps.Elimination.{cells, entries, Solved}
use Rattle.codes.proofs.elimination.Matrix.substitute.Given as goal

-- the rows from here on send the vector to zero
abbrev pub invariant-loop-row : goal.invariant-loop-row
invariant-loop-row g l =
    let F = g.F.Field in
    Solved F.field l.self.rows l.self.columns l.free l.row (cells F.field F.mean l.self.columns l.self.symbols.now)
    (entries F.field F.mean l.vector)
