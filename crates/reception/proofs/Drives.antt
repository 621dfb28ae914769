-- Calls that are run piece by piece, and runs that are cut.
use Rattle.std.proofs.Common.{ℕ, List, [], ◌∷◌, ◌++◌, append_assoc, refl, sym, ap, ◌∙◌, subst}
use Rattle.reception.specs.declared.calls.Call.{Call}
use Rattle.reception.specs.declared.calls.Outcome.{Outcome}
use Rattle.reception.specs.Receptions.{Reception, Event}
use Rattle.reception.specs.Runs.{Run, ends, goes_on, frame_taken, frames_taken, CutAnywhere, RunsAreOneRun}
use Rattle.reception.specs.Driving.{left_by, Answered, Told, Driven, PiecesAreOneRun}
use Rattle.reception.specs.steps.Calls.{Ran}

-- a run, and another behind it
pub run-append : {r between after : Reception} {es fs : List Event} → Run r es between → Run between fs after → Run r (es ++ fs) after
run-append ends second = second
run-append (goes_on rule rest) second = goes_on rule (run-append rest second)

answered-append : (calls more : List Call) (buffer middle left : List ℕ) (es fs : List Event) → Answered calls buffer es middle
    → Answered more middle fs left → Answered (calls ++ more) buffer (es ++ fs) left
answered-append [] more buffer middle left [] fs first second = subst (λ b. Answered more b fs left) first second
answered-append [] more buffer middle left (e ∷ es) fs impossible second = absurd impossible
answered-append (call ∷ calls) more buffer middle left [] fs impossible second = absurd impossible
answered-append (call ∷ calls) more buffer middle left (e ∷ es) fs first second =
    (first.0, answered-append calls more (left_by e buffer) middle left es fs first.1 second)

module _ {L : Type 0} (hears : L → Call → Outcome → List ℕ → L → Type 0) where
  told-append : (calls more : List Call) (es fs : List Event) (listener between after : L) → Told hears calls es listener between
      → Told hears more fs between after → Told hears (calls ++ more) (es ++ fs) listener after
  told-append [] more [] fs listener between after first second = subst (λ l. Told hears more fs l after) first second
  told-append [] more (e ∷ es) fs listener between after impossible second = absurd impossible
  told-append (call ∷ calls) more [] fs listener between after impossible second = absurd impossible
  told-append (call ∷ calls) more (e ∷ es) fs listener between after first second =
      (first.0, first.1, told-append calls more es fs first.0 between after first.2 second)

  pub pieces_are_one_run : PiecesAreOneRun hears
  pieces_are_one_run r between end calls more buffer middle left listener told after first second = (
    record {
      events = first.events ++ second.events;
      run = run-append first.run second.run;
      answered = answered-append calls more buffer middle left first.events second.events first.answered second.answered;
      told = told-append calls more first.events second.events listener told after first.told second.told;
    },
    refl,
  )

  pub none_driven : (r : Reception) (buffer : List ℕ) (listener : L) → Driven hears r [] buffer buffer listener listener r
  none_driven r buffer listener = record { events = []; run = ends; answered = refl; told = refl }

  one_driven : (r : Reception) (call : Call) (buffer left : List ℕ) (listener after : L) (end : Reception) → Ran hears r call buffer left listener after end
      → Driven hears r (call ∷ []) buffer left listener after end
  one_driven r call buffer left listener after end ran = record {
    events = ran.event ∷ [];
    run = goes_on ran.rule ends;
    answered = (ran.asked, ran.left_is);
    told = (after, ran.told, refl);
  }

  -- one call more
  pub driven_more : (r between end : Reception) (calls : List Call) (call : Call) (buffer middle left : List ℕ) (listener told after : L)
      → Driven hears r calls buffer middle listener told between → Ran hears between call middle left told after end
      → Driven hears r (calls ++ call ∷ []) buffer left listener after end
  driven_more r between end calls call buffer middle left listener told after before ran =
      (pieces_are_one_run r between end calls (call ∷ []) buffer middle left listener told after before
      (one_driven between call middle left told after end ran)).0

-- every run can be cut
pub cut_anywhere : CutAnywhere
cut_anywhere r after [] future run = record { cut = r; earlier = ends; later = run; frames = refl }
cut_anywhere r after (e ∷ past) future (goes_on {between = between} rule rest) =
    let c = cut_anywhere between after past future rest in
    record {
      cut = c.cut;
      earlier = goes_on rule c.earlier;
      later = c.later;
      frames = ap (λ l. frame_taken r e ++ l) c.frames ∙ sym (append_assoc (frame_taken r e) (frames_taken c.earlier) (frames_taken c.later));
    }

-- runs put together
pub runs_are_one_run : RunsAreOneRun
runs_are_one_run r between after [] future ends second = (second, refl)
runs_are_one_run r between after (e ∷ past) future (goes_on {between = next} rule rest) second =
    let w = runs_are_one_run next between after past future rest second in (
      goes_on rule w.0,
      ap (λ l. frame_taken r e ++ l) w.1 ∙ sym (append_assoc (frame_taken r e) (frames_taken rest) (frames_taken second)),
    )
