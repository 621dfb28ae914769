use Rattle.std.proofs.Common.{◌*◌, ◌≤◌, sym, ap, ap₂, ◌∙◌, arith}
use Rattle.std.proofs.lemmas.Nat.{mul-le}
use lib.Seq.{length-take-le}
use Rattle.std.specs.List.{concat}
use Rattle.reception.specs.steps.Holding.{Holding}
use Rattle.reception.proofs.Framing.{frames_counted, concat-frames}
use Rattle.reception.proofs.held.HeldFrames.bytes.Goals as goal

pub returns : goal.returns
returns c =
    let long = c.self.inside.frame_length in
    let count = c.self.inside.count in
    let room : count * long ≤ 5 * 576 = mul-le count long 5 576 c.self.invariant.1 c.self.invariant.0 in
    record {
      bytes = sym (concat-frames long count c.self.inside.bytes) ∙ ap (λ (held : Holding). concat held.frames) c.self.view_is;
      length =
          length-take-le _ _ (omega (arith, room, c.self.told))
          ∙ ap₂ ◌*◌ (frames_counted long count c.self.inside.bytes c.args.self.now c.self.view_is) (ap (λ (held : Holding). held.frame_length) c.self.view_is);
    }
