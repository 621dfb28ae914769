-- The law: a receiver is back after bad reception.
use Rattle.std.proofs.Common.{ℕ, zero, suc, ◌/◌, ◌%◌, ◌≤◌, List, ◌++◌, length, refl, subst, inl, inr, arith}
use Rattle.std.proofs.lemmas.Bool.{cases_eq}
use Rattle.sources.specs.Sources.{Source}
use Rattle.reception.specs.declared.mode.Mode.{Mode}
use Rattle.reception.specs.declared.mode.Mode.TheVariants.{Hunting, Locked}
use Rattle.reception.specs.Receptions.{Event}
use Rattle.reception.specs.Blocks.{IsLegible, SuperFrame}
use Rattle.reception.specs.Rules.{with_frame, received}
use Rattle.reception.specs.Runs.{frames_taken, patience_after, until_taken}
use Rattle.reception.specs.Recovery.{FifthOf, NoOtherLegible, Supposed, BackAfterBadReception}
use Rattle.reception.proofs.Places.{Place}
use Rattle.reception.proofs.WholeRuns.{EndsThere, keeps}

-- where none of the stretch is taken, a receiver stands somewhere, whatever it did before
anywhere : (mode : Mode) (held misses patience : ℕ) → held ≤ 4 → Place (Unit {0}) 0 mode held misses patience
anywhere Hunting held misses patience few = (inr (omega arith), inl tt)
anywhere Locked zero misses patience few = inl (record { whole = 0; counts = refl })
anywhere Locked (suc held) misses patience few = inr (record {
  strays = tt;
  shift = suc held;
  lost = 0;
  counts = omega arith;
  some = omega arith;
  few = few;
  missed = omega arith;
  patient = inl refl;
})

-- a place that cannot be of no fifth is one
fifth_at : (n : ℕ) → (((i : ℕ) → FifthOf i n → ⊥) → ⊥) → (i : ℕ) × FifthOf i n
fifth_at n some = elim (cases_eq (n % 5) 4) [ inl e ↦ (n / 5, omega arith) | inr ne ↦ absurd (some (λ i f. ne (omega arith))) ]

own_only : {size : ℕ} {source : Source} {past future : List Event} {sent : List SuperFrame} (r : Supposed size source past future sent)
    → NoOtherLegible size (length sent) (frames_taken r.earlier) (frames_taken r.later) → EndsThere r (Unit {0})
own_only r others now frame n same inside place fifth seen readable found =
    fifth_at n
    (λ none. others seen.older (with_frame now frame) seen.newer n seen.all_is seen.long seen.last inside none
    (subst (λ z. IsLegible z (received now frame)) same readable))

pub back_after_bad_reception : BackAfterBadReception
back_after_bad_reception size source past future sent r others =
    keeps r (Unit {0}) (own_only r others) (anywhere r.cut.mode (length r.cut.held) r.cut.misses r.cut.patience)
    (patience_after 3 (past ++ until_taken future)) (λ _. refl)
