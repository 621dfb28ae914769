use Rattle.std.proofs.Common.{◌≡◌, ℕ, ◌-◌, List, drop, length, ap, ◌∙◌, arith}
use Rattle.reception.specs.steps.Holding.{Holding, holding}
use Rattle.reception.proofs.Framing.{frames_counted, frames, frames_copied}
use Rattle.reception.proofs.held.HeldFrames.drop_oldest.Goals as goal

pub returns : goal.returns
returns c =
    let long = c.self.inside.frame_length in
    let count = c.self.inside.count in
    let bytes = c.self.inside.bytes in
    let counted : count ≡ length c.args.self.now.frames =
    frames_counted long count bytes c.args.self.now c.self.view_is in
    ap (λ (n : ℕ). holding long n c.copy_within.new.self) (let e : count - 1 ≡ 4 = omega (arith, counted, c.requires) in e)
    ∙ ap (holding long 4) c.copy_within.ensures.after
    ∙ ap (λ (frames : List (List ℕ)). record { frame_length = long; frames = frames }) (frames_copied long 4 bytes (omega (arith, c.self.told, c.self.invariant.0)))
    ∙ ap (λ (n : ℕ). record { frame_length = long; frames = drop 1 (frames long n bytes) }) (let e : 5 ≡ count = omega (arith, counted, c.requires) in e)
    ∙ ap (λ (held : Holding). record held { frames = drop 1 held.frames }) c.self.view_is
