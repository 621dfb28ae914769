use Rattle.std.proofs.Common.{rules, map, ap, ◌∙◌}
use Rattle.std.proofs.lemmas.Result.{IfOk-weaker}
use Rattle.dabreceive.specs.Plans.{question}
use Rattle.dabreceive.specs.Reports.{SumsUp, Replays}
use Rattle.dabreceive.proofs.Replaying.{replays}
use Rattle.dabreceive.proofs.receiving.replay.Goals as goal

pub returns : goal.returns
returns c =
    let before = c.args.report.now.summary in
    let after = c.make_calls.new.report.summary in
    IfOk-weaker c.make_calls.result (λ _. SumsUp c.args.size c.deref.result.now before after) (λ _. Replays c.args.size c.args.patience c.args.recording.now before after)
    (λ _. replays c.args.size (search rules) (search rules) c.args.patience c.args.recording.now c.deref.result.now before after
    (ap (map question) c.deref.ensures.value ∙ c.in_ok-calls.ensures))
    c.make_calls.ensures
