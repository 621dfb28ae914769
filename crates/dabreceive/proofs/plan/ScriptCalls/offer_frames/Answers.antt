use Rattle.dabreceive.specs.Plans.{frames_left}
use Rattle.dabreceive.proofs.Planning.{one_more}
use Rattle.dabreceive.proofs.plan.ScriptCalls.offer_frames.Goals as goal

pub loop-preserved : goal.loop-preserved
loop-preserved c =
    one_more c.args.self.now c.loop.self c.offer_next.new.self (frames_left c.args.self.now) c.loop.counter c.loop.invariant c.in_ok-offer_next.ensures.adds
