-- A stretch is an instance of the laws, and the run that is made of it delivers every super frame.
use Rattle.std.proofs.Common.{◌≡◌, ℕ, subst, sym}
use Rattle.stretches.specs.Instances.{count_from, Instance}
use Rattle.stretches.proofs.Instancing.{instance}
use Rattle.stretches.proofs.Demonstrating.{demonstrated}
use Rattle.stretches.proofs.trial.try_recording.Goals as goal

pub returns : goal.returns
returns g c =
    let found = rw c.in-Some.is at c.in_ok-super_frames.ensures in
    let counted : c.in-Some.super_frames ≡ count_from c.args.size 0 c.args.recording.now = found.0 in (
      demonstrated c.args.size c.in-Some.super_frames c.args.recording.now counted
          (subst (λ (n : ℕ). Instance c.args.size n c.args.recording.now) {x = count_from c.args.size 0 c.args.recording.now} (sym counted) (instance c.args.size c.args.recording.now found.2))
          c.in_ok-corrected.ensures.1,
      c.in_ok-corrected.ensures.0,
    )
