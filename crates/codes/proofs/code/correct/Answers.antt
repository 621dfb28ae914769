-- The answer, and what it comes to. The theorems hold whatever is answered.
use Rattle.std.proofs.Common.{length, rules, Err}
use Rattle.gf.specs.declared.refusal.Refusal.TheVariants.{Shape}
use Rattle.codes.specs.Codewords.{code_shape, Correction}
use Rattle.codes.proofs.Shapes.{admitted_zeros}
use Rattle.codes.proofs.PowerSums.{vandermonde}
use Rattle.codes.proofs.Words.{syndromes_decide, minimum_distance}
use Rattle.codes.proofs.CorrectingWords.{corrects}
use Rattle.codes.proofs.code.correct.Goals as goal

pub correct_word-requires-clause-work : goal.correct_word-requires-clause-work
correct_word-requires-clause-work g c =
    let F = g.F.Field in
    admitted_zeros g.met.F.Field.laws F.mean (code_shape F.field (length c.args.word.now) c.args.checks) c.args.work.now c.if-not-is_admitted.ensures

pub returns-then-not-is_admitted : goal.returns-then-not-is_admitted
returns-then-not-is_admitted g c =
    let F = g.F.Field in
    let l = g.met.F.Field.laws in
    let word = c.args.word.now in
    let work = c.args.work.now in
    let answer : Correction F.field F.mean c.args.checks word word work work (Err Shape) = search rules in
    record {
      answer = answer;
      corrects = corrects l F.mean c.args.checks word word work work (Err Shape) answer;
      vandermonde = vandermonde l;
      syndromes = syndromes_decide l;
      distance = minimum_distance l;
    }

pub returns : goal.returns
returns g c =
    let F = g.F.Field in
    let l = g.met.F.Field.laws in
    let answer : Correction F.field F.mean c.args.checks c.args.word.now c.correct_word.new.word c.args.work.now c.correct_word.new.work c.correct_word.result = search rules in
    record {
      answer = answer;
      corrects = corrects l F.mean c.args.checks c.args.word.now c.correct_word.new.word c.args.work.now c.correct_word.new.work c.correct_word.result answer;
      vandermonde = vandermonde l;
      syndromes = syndromes_decide l;
      distance = minimum_distance l;
    }
