-- Frames that are handed in one by one, as a witness of the calls knows them.
use Rattle.std.proofs.Common.{◌≡◌, ℕ, ◌+◌, true, cond, List, [], ◌∷◌, ◌++◌, Ok, Err, Result, sym, refl, ap, ◌∙◌, subst, subst₂, ap₂, take, length-append, arith}
use Rattle.std.proofs.lemmas.Bool.{false≢true}
use Rattle.std.proofs.lemmas.List.Sums.{sum_by-append}
use Rattle.std.specs.List.{count_by}
use Rattle.gf.specs.declared.refusal.Refusal.{Refusal}
use Rattle.reception.specs.declared.calls.Call.{Call}
use Rattle.reception.specs.declared.calls.Call.TheVariants.{Pull}
use Rattle.reception.specs.declared.calls.Outcome.{Outcome}
use Rattle.reception.specs.declared.calls.Outcome.TheVariants as outcomes
use Rattle.reception.specs.declared.answers.Pulled.{Pulled}
use Rattle.reception.specs.declared.answers.Pulled.TheVariants.{NothingWaiting, Held, Missed, Delivered}
use Rattle.reception.specs.Receptions.{Reception, Event, pulled, offered, restarted, patience_set, reported, pull, offer, asked_by}
use Rattle.reception.specs.Runs.{ends, number_taken, accepted, is_delivery}
use Rattle.reception.specs.Driving.{asked_of, left_by, Answered, outcome_of, Told, Driven}
use Rattle.reception.proofs.Drives.{run-append}
use Rattle.reception.proofs.WholeRuns.{accepted-append}
use Rattle.stretches.specs.declared.witness.Witness.{Witness}
use Rattle.stretches.specs.steps.Feeding.{heard, AllCalm, Smooth, Fed}

-- what a witness may be after it heard of a call
abbrev pub hears : Witness → Call → Outcome → List ℕ → Witness → Type 0
hears before call outcome block after = after ≡ heard before outcome

number_taken-append : (es fs : List Event) → number_taken (es ++ fs) ≡ number_taken es + number_taken fs
number_taken-append [] fs = omega arith
number_taken-append (e ∷ es) fs = omega (arith, number_taken-append es fs)

calm-append : (es fs : List Event) → AllCalm es → AllCalm fs → AllCalm (es ++ fs)
calm-append [] fs first second = second
calm-append (e ∷ es) fs first second = (first.0, calm-append es fs first.1 second)

same_offer : {frame other : List ℕ} → offer frame ≡ offer other → frame ≡ other
same_offer same = cc

same_pull : {lent other : List ℕ} → pull lent ≡ pull other → lent ≡ other
same_pull same = cc

-- what asks to put a frame in is an offer of it
offered_event : (e : Event) (frame : List ℕ) → asked_by e ≡ offer frame → (answer : Result Unit Refusal) × (e ≡ offered frame answer)
offered_event (pulled lent answer left) frame same = cc
offered_event (offered other answer) frame same = (answer, ap (λ f. offered f answer) (same_offer same))
offered_event restarted frame same = cc
offered_event (patience_set number answer) frame same = cc
offered_event (reported told) frame same = cc

-- and what asks for a frame is a pull
pulled_event : (e : Event) (lent : List ℕ) → asked_by e ≡ pull lent
    → (answer : Result Pulled Refusal) × (left : List ℕ) × (e ≡ pulled lent answer left)
pulled_event (pulled other answer left) lent same = (answer, left, ap (λ l. pulled l answer left) (same_pull same))
pulled_event (offered frame answer) lent same = cc
pulled_event restarted lent same = cc
pulled_event (patience_set number answer) lent same = cc
pulled_event (reported told) lent same = cc

-- one frame that is offered, and a pull behind it
one_frame : (frame lent left : List ℕ) (answer : Result Unit Refusal) (answer′ : Result Pulled Refusal) (w : Witness)
    → (heard (heard w (outcomes.Offered answer)) (outcomes.Pulled answer′)).smooth ≡ true
    → Smooth (frame ∷ []) w (heard (heard w (outcomes.Offered answer)) (outcomes.Pulled answer′)) (offered frame answer ∷ pulled lent answer′ left ∷ [])
one_frame frame lent left answer (Ok NothingWaiting) w smooth = absurd (false≢true smooth)
one_frame frame lent left answer (Err refusal) w smooth = absurd (false≢true smooth)
one_frame frame lent left (Err refusal) (Ok Held) w smooth = absurd (false≢true smooth)
one_frame frame lent left (Err refusal) (Ok (Missed missed)) w smooth = absurd (false≢true smooth)
one_frame frame lent left (Err refusal) (Ok (Delivered d)) w smooth = absurd (false≢true smooth)
one_frame frame lent left (Ok _) (Ok Held) w smooth = record {
  smooth = smooth;
  accepted_are = refl;
  taken = refl;
  calm = (refl, (refl, tt));
  deliveries = λ below. omega arith;
}
one_frame frame lent left (Ok _) (Ok (Missed missed)) w smooth = record {
  smooth = smooth;
  accepted_are = refl;
  taken = refl;
  calm = (refl, (refl, tt));
  deliveries = λ below. omega arith;
}
one_frame frame lent left (Ok _) (Ok (Delivered d)) w smooth = record {
  smooth = smooth;
  accepted_are = refl;
  taken = refl;
  calm = (refl, (refl, tt));
  deliveries = λ below. omega arith;
}

-- the events of the two calls
two_events : (frame : List ℕ) (long : ℕ) (call : Call) (buffer left : List ℕ) (events : List Event) (w told : Witness) → ((b : List ℕ) → asked_of call b ≡ offer frame)
    → Answered (call ∷ Pull long ∷ []) buffer events left → Told hears (call ∷ Pull long ∷ []) events w told → told.smooth ≡ true
    → Smooth (frame ∷ []) w told events
two_events frame long call buffer left [] w told asks answered heard_of smooth = absurd answered
two_events frame long call buffer left (e ∷ []) w told asks answered heard_of smooth = absurd answered.1
two_events frame long call buffer left (e ∷ e′ ∷ e″ ∷ es) w told asks answered heard_of smooth = absurd answered.1.1
two_events frame long call buffer left (e ∷ e′ ∷ []) w told asks answered heard_of smooth =
    subst₂ (λ x y. Smooth (frame ∷ []) w told (x ∷ y ∷ [])) (sym first.1) (sym second.2)
    (subst (λ t. Smooth (frame ∷ []) w t (offered frame first.0 ∷ pulled lent second.0 second.1 ∷ [])) (sym final)
    (one_frame frame lent second.1 first.0 second.0 w (subst (λ t. t.smooth ≡ true) final smooth)))
  where
    lent : List ℕ
    lent = take long (left_by e buffer)

    first : (answer : Result Unit Refusal) × (e ≡ offered frame answer)
    first = offered_event e frame (answered.0 ∙ asks buffer)

    second : (answer : Result Pulled Refusal) × (left : List ℕ) × (e′ ≡ pulled lent answer left)
    second = pulled_event e′ lent answered.1.0

    final : told ≡ heard (heard w (outcomes.Offered first.0)) (outcomes.Pulled second.0)
    final =
        heard_of.2.2 ∙ heard_of.2.1
        ∙ ap₂ (λ b o. heard b o) (heard_of.1 ∙ ap (λ x. heard w (outcome_of x)) first.1) (ap outcome_of second.2)

-- a frame that is offered, and a pull behind it
pub one_fed : (r after : Reception) (frame : List ℕ) (long : ℕ) (call : Call) (buffer left : List ℕ) (w told : Witness) → ((b : List ℕ) → asked_of call b ≡ offer frame)
    → Driven hears r (call ∷ Pull long ∷ []) buffer left w told after → Fed r (frame ∷ []) w after told
one_fed r after frame long call buffer left w told asks d = record {
  events = d.events;
  run = d.run;
  is_smooth = two_events frame long call buffer left d.events w told asks d.answered d.told;
}

-- no frames
pub none_fed : (r : Reception) (w : Witness) → Fed r [] w r w
none_fed r w = record {
  events = [];
  run = ends;
  is_smooth = λ smooth. record { smooth = smooth; accepted_are = refl; taken = refl; calm = tt; deliveries = λ below. omega arith };
}

-- some, and then others
pub fed-append : (r between after : Reception) (frames others : List (List ℕ)) (w told told′ : Witness) → Fed r frames w between told
    → Fed between others told after told′ → Fed r (frames ++ others) w after told′
fed-append r between after frames others w told told′ first second = record {
  events = first.events ++ second.events;
  run = run-append first.run second.run;
  is_smooth = λ smooth. both (second.is_smooth smooth);
}
  where
    both : Smooth others told told′ second.events → Smooth (frames ++ others) w told′ (first.events ++ second.events)
    both s =
        let f = first.is_smooth s.smooth in
        record {
          smooth = f.smooth;
          accepted_are = accepted-append first.events second.events ∙ ap (λ l. l ++ accepted second.events) f.accepted_are ∙ ap (λ l. frames ++ l) s.accepted_are;
          taken = omega (arith, number_taken-append first.events second.events, f.taken, s.taken, length-append frames others);
          calm = calm-append first.events second.events f.calm s.calm;
          deliveries = λ below.
              let later = s.deliveries below in
              let all : count_by is_delivery (first.events ++ second.events) ≡ count_by is_delivery first.events + count_by is_delivery second.events =
              sum_by-append (λ e. cond (is_delivery e) 1 0) first.events second.events in
              omega (arith, all, later, f.deliveries (omega (arith, later, below)));
        }
