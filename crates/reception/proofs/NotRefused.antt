-- What it says of a call that it is not refused.
use Rattle.std.proofs.Common.{◌≡◌, ℕ, ◌*◌, Bool, true, false, not, ◌&&◌, leb, leb-true, eqb, eqb-true, List, [], ◌∷◌, length, Some, None, Option, refl}
use Rattle.std.proofs.lemmas.Bool.{and_parts}
use Rattle.gf.specs.declared.refusal.Refusal.{Refusal}
use Rattle.gf.specs.declared.refusal.Refusal.TheVariants.{Size, Buffer, FrameLength}
use Rattle.gf.specs.Refusals.{first_refusal}
use Rattle.block.specs.Headers.{of_buffer}
use Rattle.reception.specs.Receptions.{Reception}
use Rattle.reception.specs.Rules.{Ready}
use Rattle.reception.specs.steps.Calls.{PullFits}

-- a call is not both refused and done
pub not_both : {G : Type 0} (first : Option Refusal) (refusal : Refusal) → first ≡ None → first ≡ Some refusal → G
not_both first refusal none some = cc

-- the first test passes, and none of the other refusals applies
pub passed : (test : Bool) (refusal : Refusal) (others : List (Bool × Refusal)) → first_refusal ((not test, refusal) ∷ others) ≡ None
    → (test ≡ true) × (first_refusal others ≡ None)
passed true refusal others e = (refl, e)
passed false refusal others e = cc

pub admitted : (r : Reception) (buffer : List ℕ) → Ready r buffer → PullFits r buffer
admitted r buffer ready = record {
  in_range = let parts = and_parts (leb 1 r.size) (leb r.size 24) sized.0 in (leb-true 1 r.size parts.0, leb-true r.size 24 parts.1);
  buffer_long = eqb-true (length buffer) (120 * r.size) buffered.0;
  frames_long = eqb-true r.source.frame_length (24 * r.size) (passed (eqb r.source.frame_length (24 * r.size)) FrameLength [] buffered.1).0;
}
  where
    lengths : List (Bool × Refusal)
    lengths = (not (eqb r.source.frame_length (24 * r.size)), FrameLength) ∷ []

    sized : ((leb 1 r.size && leb r.size 24) ≡ true) × (first_refusal (of_buffer r.size buffer lengths) ≡ None)
    sized = passed (leb 1 r.size && leb r.size 24) Size (of_buffer r.size buffer lengths) ready

    buffered : (eqb (length buffer) (120 * r.size) ≡ true) × (first_refusal lengths ≡ None)
    buffered = passed (eqb (length buffer) (120 * r.size)) Buffer lengths sized.1
