-- What every rule, and then every run, does to the line, the frames held, the size and the patience.
use Rattle.std.proofs.Common.{◌≡◌, ℕ, ◌+◌, ◌<◌, ◌≤◌, cond, List, [], ◌∷◌, ◌++◌, length, take, drop, take-append-drop, is_ok, Ok, Err, Result, sym, refl, ap, ◌∙◌, subst, arith}
use Rattle.std.proofs.lemmas.List.{length-append, append_assoc, append-nil}
use Rattle.gf.specs.declared.refusal.Refusal.{Refusal}
use Rattle.sources.specs.Sources.{Source, Offers}
use Rattle.reception.specs.Receptions.{Reception, Event}
use Rattle.reception.specs.Rules.{InFront, with_frame, Fifth, Rule, pull_refused, gathers, finds, passes_by, follows, misses_one, loses_lock, passes_on, restarts}
use Rattle.reception.specs.Runs.{Run, ends, goes_on, takes, number_taken, frame_taken, frames_taken, accepted_by, accepted, patience_by, patience_after}
use Rattle.reception.proofs.Lists.{without_oldest, four_left}

pub rule_size : {r after : Reception} {e : Event} → Rule r e after → after.size ≡ r.size
rule_size (pull_refused _) = refl
rule_size _ = refl

pub rule_patience : {r after : Reception} {e : Event} → Rule r e after → after.patience ≡ patience_by e r.patience
rule_patience (pull_refused _) = refl
rule_patience _ = refl

offer_line : (s after : Source) (frame : List ℕ) (answer : Result Unit Refusal) → Offers s frame after answer
    → s.waiting ++ cond (is_ok answer) (frame ∷ []) [] ≡ after.waiting
offer_line s after frame (Ok _) step = ap (λ t. t.waiting) (sym step.1)
offer_line s after frame (Err refusal) step = append-nil s.waiting ∙ ap (λ t. t.waiting) (sym step.1)

first_and_others : (frames : List (List ℕ)) → frames ++ [] ≡ take 1 frames ++ drop 1 frames
first_and_others frames = append-nil frames ∙ sym (take-append-drop 1 frames)

-- what waited, then what is put in, is what is taken, then what waits
pub rule_line : {r after : Reception} {e : Event} → Rule r e after → r.source.waiting ++ accepted_by e ≡ frame_taken r e ++ after.source.waiting
rule_line (pull_refused _) = append-nil _
rule_line (gathers _ _ _) = first_and_others _
rule_line (finds _ _ _ _ _ _) = first_and_others _
rule_line (passes_by _ _ _ _ _) = first_and_others _
rule_line (follows _ _ _ _ _) = first_and_others _
rule_line (misses_one _ _ _ _ _ _) = first_and_others _
rule_line (loses_lock _ _ _ _ _ _) = first_and_others _
rule_line (passes_on {r = r} {frame = frame} {after = after} {answer = answer} step) = offer_line r.source after frame answer step
rule_line _ = append-nil _

one_in_front : {frames : List (List ℕ)} {frame : List ℕ} → frames ≡ frame ∷ drop 1 frames → length (take 1 frames) ≡ 1
one_in_front front = ap (λ l. length (take 1 l)) front

pub rule_number : {r after : Reception} {e : Event} → Rule r e after → length (frame_taken r e) ≡ cond (takes e) 1 0
rule_number (gathers _ front _) = one_in_front front
rule_number (finds _ front _ _ _ _) = one_in_front front
rule_number (passes_by _ front _ _ _) = one_in_front front
rule_number (follows _ front _ _ _) = one_in_front front
rule_number (misses_one _ front _ _ _ _) = one_in_front front
rule_number (loses_lock _ front _ _ _ _) = one_in_front front
rule_number _ = refl

-- These are the last of the frames taken, and at most four.
abbrev pub Holds : List (List ℕ) → List (List ℕ) → Type 0
Holds taken held = (older : List (List ℕ)) × (taken ≡ older ++ held) × (length held ≤ 4)

pub holds_none : (taken : List (List ℕ)) → Holds taken []
holds_none taken = (taken, sym (append-nil taken), omega arith)

holds_four : (r : Reception) (frame : List ℕ) (taken : List (List ℕ)) → InFront r frame → Fifth r → Holds taken r.held
    → Holds (taken ++ take 1 r.source.waiting) (drop 1 (with_frame r frame))
holds_four r frame taken front five k =
    let d = without_oldest taken k.0 r.held frame k.1 five in
    (d.0, ap (λ l. taken ++ take 1 l) front ∙ d.1, omega (arith, four_left r.held frame five))

holds_more : (r : Reception) (frame : List ℕ) (taken : List (List ℕ)) → InFront r frame → length r.held + 1 < 5 → Holds taken r.held
    → Holds (taken ++ take 1 r.source.waiting) (with_frame r frame)
holds_more r frame taken front few k = (
  k.0,
  ap (λ l. taken ++ take 1 l) front ∙ ap (λ l. l ++ frame ∷ []) k.1 ∙ append_assoc k.0 r.held (frame ∷ []),
  omega (arith, length-append r.held (frame ∷ [])),
)

pub rule_holds : {r after : Reception} {e : Event} → Rule r e after → (taken : List (List ℕ)) → Holds taken r.held
    → Holds (taken ++ frame_taken r e) after.held
rule_holds (pull_refused _) taken k = (k.0, append-nil taken ∙ k.1, k.2)
rule_holds (gathers {r = r} {frame = frame} _ front few) taken k = holds_more r frame taken front few k
rule_holds (finds _ _ _ _ _ _) taken k = holds_none _
rule_holds (passes_by {r = r} {frame = frame} _ front five _ _) taken k = holds_four r frame taken front five k
rule_holds (follows _ _ _ _ _) taken k = holds_none _
rule_holds (misses_one _ _ _ _ _ _) taken k = holds_none _
rule_holds (loses_lock {r = r} {frame = frame} _ front five _ _ _) taken k = holds_four r frame taken front five k
rule_holds restarts taken k = holds_none _
rule_holds _ taken k = (k.0, append-nil taken ∙ k.1, k.2)

-- the same of runs
pub run_size : {r after : Reception} {es : List Event} → Run r es after → after.size ≡ r.size
run_size ends = refl
run_size (goes_on rule rest) = run_size rest ∙ rule_size rule

pub run_patience : {r after : Reception} {es : List Event} → Run r es after → after.patience ≡ patience_after r.patience es
run_patience ends = refl
run_patience (goes_on {es = es} rule rest) = run_patience rest ∙ ap (λ p. patience_after p es) (rule_patience rule)

pub run_line : {r after : Reception} {es : List Event} (run : Run r es after)
    → r.source.waiting ++ accepted es ≡ frames_taken run ++ after.source.waiting
run_line ends = append-nil _
run_line (goes_on {r = r} {between = between} {after = after} {e = e} {es = es} rule rest) =
    sym (append_assoc r.source.waiting (accepted_by e) (accepted es))
    ∙ ap (λ l. l ++ accepted es) (rule_line rule)
    ∙ append_assoc (frame_taken r e) between.source.waiting (accepted es)
    ∙ ap (λ l. frame_taken r e ++ l) (run_line rest)
    ∙ sym (append_assoc (frame_taken r e) (frames_taken rest) after.source.waiting)

pub run_number : {r after : Reception} {es : List Event} (run : Run r es after) → length (frames_taken run) ≡ number_taken es
run_number ends = refl
run_number (goes_on {r = r} {e = e} rule rest) =
    length-append (frame_taken r e) (frames_taken rest) ∙ omega (arith, rule_number rule, run_number rest)

pub run_holds : {r after : Reception} {es : List Event} (run : Run r es after) (taken : List (List ℕ)) → Holds taken r.held
    → Holds (taken ++ frames_taken run) after.held
run_holds {after = after} ends taken k = subst (λ l. Holds l after.held) (sym (append-nil taken)) k
run_holds {after = after} (goes_on {r = r} {e = e} rule rest) taken k =
    subst (λ l. Holds l after.held) (append_assoc taken (frame_taken r e) (frames_taken rest))
    (run_holds rest (taken ++ frame_taken r e) (rule_holds rule taken k))
