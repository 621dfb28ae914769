use Rattle.std.proofs.Common.{rules, ◌<◌, ◌*◌, ◌++◌, length, arith, refl, ◌∙◌}
use Rattle.reception.specs.declared.calls.Call.TheVariants.{Offer}
use Rattle.dabreceive.specs.Plans.{first_questions, replay_questions}
use Rattle.dabreceive.proofs.Planning.{frame_asked, all_asked}
use Rattle.dabreceive.proofs.plan.replay_calls.Goals as goal

pub loop-frame-preserved : goal.loop-frame-preserved
loop-frame-preserved c =
    let size = c.args.size in
    let loop = c.loop-frame in
    let total = first_questions c.args.patience ++ replay_questions size c.args.recording.now in (
      frame_asked size total loop.calls.items c.push.new.self.items c.push-in-loop-frame.new.self.items (Offer c.in-Some.frame) c.pull_block.result
          loop.frame-iterator.rest.now c.in-Some.frame.now c.next.new.self.rest.now (search rules) loop.invariant.0
          c.in-Some.ensures.steps.1.0 (c.in-Some.ensures.steps.1.1 ∙ loop.invariant.1) c.in_ok-push.ensures.items refl c.in_ok-push-2.ensures.items c.pull_block.ensures,
      c.in-Some.ensures.steps.0 ∙ loop.invariant.1,
    )

pub returns : goal.returns
returns c =
    let loop = c.loop-frame in
    let short : length loop.frame-iterator.rest.now < 24 * c.args.size = omega (arith, c.in-None.ensures.steps.1.0, loop.invariant.1) in
    all_asked c.args.size (first_questions c.args.patience ++ replay_questions c.args.size c.args.recording.now) loop.calls.items loop.frame-iterator.rest.now loop.invariant.0 short
