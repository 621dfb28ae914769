use Rattle.std.proofs.Common.{◌≡◌, ℕ, ◌+◌, ◌-◌, ◌*◌, ◌≤◌, List, [], ◌∷◌, ◌++◌, length, Ok, sym, ap, ◌∙◌, subst, arith}
use Rattle.std.proofs.lemmas.Nat.{mul-le}
use Rattle.std.proofs.lemmas.List.Elements.{All-head}
use Rattle.std.specs.List.{All}
use borrow.Rule.Slice.PartMut.{put_mid}
use Rattle.sources.specs.Sources.{without_first}
use Rattle.reception.specs.steps.Holding.{Holding, holding}
use Rattle.reception.proofs.Framing.{frames_counted, frames_written, given}
use Rattle.reception.proofs.held.HeldFrames.take_next.Goals as goal

pub returns-clause-taken : goal.returns-clause-taken
returns-clause-taken g c =
    let long = c.self.inside.frame_length in
    let count = c.self.inside.count in
    let start = count * long in
    let frame = c.next.new.buffer in
    let source = g.S.FrameSource.meaning c.args.source.now in
    let after = g.S.FrameSource.meaning c.next.new.self in
    let taken : (source.waiting ≡ frame ∷ (without_first source).waiting) × (after ≡ without_first source) =
    given source after _ frame c.next.result c.next.ensures.found (c.in_ok-next.was ∙ ap Ok c.in-Frame.is) in
    let counted : count ≡ length c.args.self.now.frames =
    frames_counted long count c.self.inside.bytes c.args.self.now c.self.view_is in
    let room : (count + 1) * long ≤ 5 * 576 = mul-le (count + 1) long 5 576 (omega (arith, counted, c.requires.few)) c.self.invariant.0 in
    let fits : length frame ≡ long =
    All-head (λ f. length f ≡ source.frame_length) frame _ (subst (All (λ f. length f ≡ source.frame_length)) taken.0 (g.met.S.FrameSource.lengths c.args.source.now))
    ∙ c.requires.fits ∙ sym (ap (λ (held : Holding). held.frame_length) c.self.view_is) in (
      frame,
      taken.0,
      taken.1,
      ap (λ (k : ℕ). holding long (count + 1) (put_mid start k c.self.inside.bytes frame)) (let e : start + long - start ≡ long = omega arith in e)
          ∙ ap (λ (frames : List (List ℕ)). record { frame_length = long; frames = frames }) (frames_written long count c.self.inside.bytes frame (omega (arith, room, c.self.told)) fits)
          ∙ ap (λ (held : Holding). record held { frames = held.frames ++ frame ∷ [] }) c.self.view_is,
    )
