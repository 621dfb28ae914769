use Rattle.std.proofs.Common.{◌≡◌, ◌+◌, ◌-◌, length, take, drop, ap, ◌∙◌, arith, length-take-le}
use borrow.Rule.Slice.PartMut.{mid_len}
use Rattle.codes.specs.Polynomials.{zeros}
use Rattle.codes.specs.Codewords.{generator}
use Rattle.codes.proofs.Shapes.{code_sizes}
use Rattle.codes.proofs.Filling.{filled_in_place}
use Rattle.codes.proofs.Generating.{generator-admitted}
use Rattle.codes.proofs.code.fill_checks.Goals as goal

pub divide-requires : goal.divide-requires
divide-requires g c =
    let f = g.F.Field.field in
    let parts = c.split_at_mut-generator.result in
    let r = c.args.checks in
    let sizes = code_sizes f (length c.args.word.now) r c.requires.shape in
    let front : length (take (r + 1) parts.0.now) ≡ r + 1 = length-take-le (r + 1) parts.0.now (omega arith) in
    let back : length (take r parts.1.now) ≡ r = length-take-le r parts.1.now (omega arith) in
    let degree : length (take (r + 1) parts.0.now) - 1 ≡ r = omega arith in
    generator-admitted g.met.F.Field.laws r _ _ sizes.0 sizes.1 back (c.write_generator.ensures ∙ ap (generator f) degree)

pub returns : goal.returns
returns g c =
    let f = g.F.Field.field in
    let parts = c.split_at_mut-generator.result in
    let r = c.args.checks in
    let sizes = code_sizes f (length c.args.word.now) r c.requires.shape in
    let word = c.args.word.now in
    let first = length word - r in
    let front : length (take (r + 1) parts.0.now) ≡ r + 1 = length-take-le (r + 1) parts.0.now (omega arith) in
    let back : length (take r parts.1.now) ≡ r = length-take-le r parts.1.now (omega arith) in
    let degree : length (take (r + 1) parts.0.now) - 1 ≡ r = omega arith in
    let end : length (take (length word - first) (drop first word)) ≡ r = mid_len first (length word) word (omega arith) ∙ omega arith in
    filled_in_place g.met.F.Field.laws g.F.Field.mean r _ _ word c.clear.new.symbols c.divide.new.rest c.write_negatives.new.places _
    (omega arith) sizes.3 (c.divide.auto.rest ∙ back) (omega arith) (c.clear.ensures ∙ ap (zeros f) end)
    (c.write_generator.ensures ∙ ap (generator f) degree) (omega arith) c.divide.ensures c.write_negatives.ensures
