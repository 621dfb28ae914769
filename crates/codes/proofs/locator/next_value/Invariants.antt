use Rattle.std.proofs.Common.{◌≡◌, ◌++◌, map, take, drop}
use Rattle.codes.specs.steps.Decoding.{terms_of, total}
use Rattle.codes.proofs.locator.next_value.Given as goal

-- the terms before k are summed up and have gone on, those from k on are as they were
abbrev pub invariant-loop-k : goal.invariant-loop-k
invariant-loop-k g l =
    let F = g.F.Field in
    let old = map F.mean l.initial.terms in
    (F.mean l.value ≡ total F.field (take l.k old))
    × (map F.mean l.terms ≡ take l.k (terms_of F.field F.field.root old) ++ drop l.k old)
