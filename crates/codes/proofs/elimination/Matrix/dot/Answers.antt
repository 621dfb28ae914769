use Rattle.std.proofs.Common.{◌≡◌, ◌+◌, ◌*◌, ◌-◌, [], ◌∷◌, ◌++◌, length, take, drop, sym, ◌∙◌, ap₂, arith}
use Rattle.std.proofs.lemmas.List.{length_push}
use Rattle.std.proofs.lemmas.Simd.{length-chunk}
use Rattle.std.proofs.lemmas.Slice.Zip.{zip_turn, zip_end}
use Rattle.codes.specs.steps.Elimination.{cells, entries}
use Rattle.codes.proofs.Cells.{row_in, part, cell_part}
use Rattle.codes.proofs.Linear.{sent-none, sent_more, sent_past}
use Rattle.codes.proofs.elimination.Matrix.dot.Goals as goal

pub loop-entry-init : goal.loop-entry-init
loop-entry-init g c =
    let F = g.F.Field in
    let f = F.field in
    let m = c.args.self.now in
    c.zero-sum.ensures
    ∙ sym (sent-none g.met.F.Field.laws (c.args.from + 0) (cells f F.mean m.columns m.symbols.now) c.args.row (entries f F.mean c.args.vector.now) (λ j h. c.requires.front j (omega arith)))

pub loop-entry-preserved : goal.loop-entry-preserved
loop-entry-preserved g c =
    let F = g.F.Field in
    let f = F.field in
    let m = c.args.self.now in
    let a = cells f F.mean m.columns m.symbols.now in
    let v = entries f F.mean c.args.vector.now in
    let k = length c.loop-entry.yielded in
    let start = c.args.row * m.columns in
    let inside = row_in m.rows m.columns c.args.row (length m.symbols.now) m.within c.requires.within.0 in
    let ks = take (start + c.args.to - (start + c.args.from)) (drop (start + c.args.from) m.symbols.now) in
    let vs = take (c.args.to - c.args.from) (drop c.args.from c.args.vector.now) in
    let long = length-chunk (start + c.args.from) (start + c.args.to - (start + c.args.from)) m.symbols.now (omega (arith, inside, c.requires.within)) in
    let long-values = length-chunk c.args.from (c.args.to - c.args.from) c.args.vector.now (omega (arith, c.requires.within)) in
    let t = zip_turn ks vs c.loop-entry.yielded c.into_iter-entry-iterator.result c.loop-entry.entry-iterator c.next.new.self c.next.result (cc) (cc) c.loop-entry.yielded_by (c.in-Some.entry, c.in-Some.value) c.in-Some.is c.next.ensures.steps in
    let entry = cell_part f F.mean m.columns m.symbols.now c.args.row c.args.from (start + c.args.to - (start + c.args.from)) k c.in-Some.entry.now
    (omega (arith, t.0, long)) (omega (arith, t.0, long, inside, c.requires.within)) (t.2 c.in-Some.entry.now) in
    let value = part f F.mean c.args.vector.now c.args.from (c.args.to - c.args.from) k c.in-Some.value.now (omega (arith, t.1, long-values)) (omega (arith, t.1, long-values, c.requires.within)) (t.3 c.in-Some.value.now) in
    let same : c.args.from + length (c.loop-entry.yielded ++ ((c.in-Some.entry, c.in-Some.value) ∷ [])) ≡ c.args.from + k + 1 = omega (arith, length_push c.loop-entry.yielded (c.in-Some.entry, c.in-Some.value)) in
    rw same
    (c.add-sum.ensures ∙ ap₂ f.add c.loop-entry.invariant (c.mul.ensures ∙ ap₂ f.mul entry value)
    ∙ sym (sent_more g.met.F.Field.laws (c.args.from + k) a c.args.row v))

pub returns : goal.returns
returns g c =
    let F = g.F.Field in
    let f = F.field in
    let m = c.args.self.now in
    let a = cells f F.mean m.columns m.symbols.now in
    let v = entries f F.mean c.args.vector.now in
    let k = length c.loop-entry.yielded in
    let start = c.args.row * m.columns in
    let inside = row_in m.rows m.columns c.args.row (length m.symbols.now) m.within c.requires.within.0 in
    let long = length-chunk (start + c.args.from) (start + c.args.to - (start + c.args.from)) m.symbols.now (omega (arith, inside, c.requires.within)) in
    let long-values = length-chunk c.args.from (c.args.to - c.args.from) c.args.vector.now (omega (arith, c.requires.within)) in
    let ks = take (start + c.args.to - (start + c.args.from)) (drop (start + c.args.from) m.symbols.now) in
    let vs = take (c.args.to - c.args.from) (drop c.args.from c.args.vector.now) in
    let end = zip_end ks vs c.loop-entry.yielded c.into_iter-entry-iterator.result c.loop-entry.entry-iterator c.next.new.self c.next.result (cc) (cc) c.loop-entry.yielded_by c.in-None.is c.next.ensures.steps in
    let all : c.args.from + k ≡ c.args.to = omega (arith, end, long, long-values, c.requires.within) in
    c.loop-entry.invariant ∙ sym (sent_past g.met.F.Field.laws m.columns (c.args.from + k) a c.args.row v (omega (arith, c.requires.within, all)) (λ j h. c.requires.back j (omega (arith, all))))
