use Rattle.std.proofs.Common.{rules, ◌≡◌, min, length, refl}
use Rattle.dabframes.specs.declared.passage.Passage.{Passage}
use Rattle.dabframes.proofs.Passing.{handed_in}
use Rattle.dabframes.proofs.passage.Passage.hand_in.Goals as goal

pub returns : goal.returns
returns c =
    let p = c.args.self.now in
    let middle : Passage = record { recording = c.next.new.self; rest = c.split_at.result.1; queue = p.queue; waiting = p.waiting; tally = p.tally } in
    let cut : c.min.result ≡ min (length c.args.frame.now) (length p.rest.now) = search rules in
    handed_in (length c.args.frame.now) p c.requires.steady c.args.frame.now c.next.new.buffer middle c.enqueue.new.self c.in_ok-next.field-0 c.in-Frame.is
    c.in_ok-next.ensures.found c.split_at.result.0.now c.min.result cut c.split_at.ensures.front c.split_at.ensures.back refl refl refl c.in_ok-enqueue.ensures c.requires.few
