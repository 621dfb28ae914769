-- Nothing is lost while hunting.
use Rattle.std.proofs.Common.{◌≡◌, ℕ, ◌≤◌, Bool, true, false, cond, List, length, refl, sym, ◌∙◌, subst, inl, inr, ◌⊎◌, arith}
use Rattle.std.proofs.lemmas.Bool.{cases_lt, false≢true}
use Rattle.std.specs.List.{concat}
use Rattle.sources.specs.Sources.{Source}
use Rattle.reception.specs.declared.mode.Mode.TheVariants.{Hunting}
use Rattle.reception.specs.Receptions.{Reception, Event}
use Rattle.reception.specs.Blocks.{IsCleanAndLegible, SuperFrame}
use Rattle.reception.specs.Rules.{with_frame, received, Rule, pull_refused, finds, passes_by, follows, misses_one, loses_lock, restarts}
use Rattle.reception.specs.Runs.{Run, ends, goes_on, frames_taken, is_delivery, is_reset, found}
use Rattle.reception.specs.Recovery.{line_of, FifthOf, Supposed}
use Rattle.reception.specs.Service.{NoFalseBoundary, NothingLostWhileHunting}
use Rattle.reception.proofs.Places.{Five, Place, Aligned, Astray}
use Rattle.reception.proofs.WholeRuns.{EndsThere, keeps}

-- where nothing was delivered, it hunts
rule_hunts : {r after : Reception} {e : Event} (before : Bool) → Rule r e after → (before ≡ false → r.mode ≡ Hunting)
    → cond (is_reset e) false (cond (is_delivery e) true before) ≡ false → after.mode ≡ Hunting
rule_hunts before (pull_refused _) hunts none = hunts none
rule_hunts before (finds _ _ _ _ _ _) hunts none = absurd (false≢true (sym none))
rule_hunts before (passes_by _ _ _ _ _) hunts none = refl
rule_hunts before (follows _ _ _ _ _) hunts none = absurd (false≢true (sym none))
rule_hunts before (misses_one _ _ _ locked _ _) hunts none = sym locked ∙ hunts none
rule_hunts before (loses_lock _ _ _ _ _ _) hunts none = refl
rule_hunts before restarts hunts none = refl
rule_hunts before _ hunts none = hunts none

run_hunts : {r after : Reception} {es : List Event} (before : Bool) → Run r es after → (before ≡ false → r.mode ≡ Hunting)
    → found before es ≡ false → after.mode ≡ Hunting
run_hunts before ends hunts none = hunts none
run_hunts before (goes_on {e = e} rule rest) hunts none =
    run_hunts (cond (is_reset e) false (cond (is_delivery e) true before)) rest (rule_hunts before rule hunts) none

-- hunting, what is found while at most four of the stretch's frames were taken ends with its fifth
first_fifth : (line old new : List (List ℕ)) (size n : ℕ) (five : List (List ℕ)) → NoFalseBoundary size old new → Five line old new n five → n ≤ 4
    → IsCleanAndLegible size (concat five) → FifthOf 0 n
first_fifth line old new size n five no_false seen few clean = elim (cases_lt n 4) [
  | inl less ↦ absurd (no_false seen.older five seen.newer n seen.all_is seen.long seen.last less clean)
  | inr last ↦ omega arith
]

found_there : {size : ℕ} {source : Source} {past future : List Event} {sent : List SuperFrame} (r : Supposed size source past future sent)
    → NoFalseBoundary size (frames_taken r.earlier) (frames_taken r.later) → EndsThere r ⊥
found_there r no_false now frame n same inside place fifth seen readable (inl locked) =
    aligned (subst (λ m. Place ⊥ n m (length now.held) now.misses now.patience) locked place)
  where
    aligned : Aligned n (length now.held) ⊎ Astray ⊥ n (length now.held) now.misses now.patience → (i : ℕ) × FifthOf i n
    aligned (inl a) = (a.whole, omega (arith, a.counts))
    aligned (inr a) = absurd a.strays
found_there {size} {future = future} r no_false now frame n same inside place fifth seen readable (inr hunted) =
    few (subst (λ m. Place ⊥ n m (length now.held) now.misses now.patience) hunted.0 place).1
  where
    few : ⊥ ⊎ (n ≤ 4) → (i : ℕ) × FifthOf i n
    few (inl z) = absurd z
    few (inr h) = (
      0,
      first_fifth (line_of r.cut future) (frames_taken r.earlier) (frames_taken r.later) size n (with_frame now frame) no_false seen h
          (subst (λ z. IsCleanAndLegible z (received now frame)) same hunted.1),
    )

pub nothing_lost_while_hunting : NothingLostWhileHunting
nothing_lost_while_hunting size source past future sent r none no_false =
    keeps r ⊥ (found_there r no_false)
    (λ few. subst (λ m. Place ⊥ 0 m (length r.cut.held) r.cut.misses r.cut.patience) (sym (hunts none))
    (inr (omega arith), inr (omega arith)))
    1 (λ z. absurd z)
  where
    hunts : (found false past ≡ false) ⊎ (r.cut.mode ≡ Hunting) → r.cut.mode ≡ Hunting
    hunts (inl never) = run_hunts false r.earlier (λ _. refl) never
    hunts (inr there) = there
