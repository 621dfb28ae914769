use Rattle.reception.proofs.Framing.{frames_counted}
use Rattle.reception.proofs.held.HeldFrames.count.Goals as goal

pub returns : goal.returns
returns c =
    frames_counted c.self.inside.frame_length c.self.inside.count c.self.inside.bytes c.args.self.now c.self.view_is
