-- The rules leave each call at most one answer, and one receiver and buffer after it.
use Rattle.std.proofs.Common.{◌≡◌, ℕ, ◌+◌, ◌<◌, ◌≤◌, List, [], length, drop, get_or, Some, None, Ok, Err, Option, Result, refl, sym, ap, ap₂, ◌∙◌, subst, arith}
use Rattle.gf.specs.declared.refusal.Refusal.{Refusal}
use Rattle.gf.specs.Refusals.{first_refusal}
use Rattle.sources.specs.Sources.{Source, Offers}
use Rattle.block.specs.Headers.{header}
use Rattle.reception.specs.declared.mode.Mode.TheVariants.{Hunting, Locked}
use Rattle.reception.specs.declared.answers.Delivery.{Delivery}
use Rattle.reception.specs.declared.answers.Pulled.TheVariants.{NothingWaiting, Held, Missed, Delivered}
use Rattle.reception.specs.Receptions.{Reception, taking, report_of, pull_complaints, Event, pulled, offered, restarted, patience_set, reported, Asked, pull, offer, reset, patience, report, asked_by, patience_complaints}
use Rattle.reception.specs.Blocks.{states_of_units, Delivers, Misread, IsLegible, IsCleanAndLegible}
use Rattle.reception.specs.Rules.{Ready, InFront, with_frame, Fifth, received, Rule, pull_refused, nothing_waits, gathers, finds, passes_by, follows, misses_one, loses_lock, passes_on, restarts, sets_patience, keeps_patience, reports}
use Rattle.sources.proofs.Deciding.{determined}
use Rattle.reception.proofs.RepairedBlocks.{repaired_once}
use Rattle.reception.proofs.Judging.{never_both}
use Rattle.reception.proofs.Carrying.{legible, clean}
use Rattle.reception.proofs.NotRefused.{not_both, admitted}
use Rattle.reception.proofs.OnlyChoices.{Only, Exactly, Either, one, other, Given, given, only_exactly, only_either, only_given}

same_refusal : (first : Option Refusal) (refusal refusal′ : Refusal) → first ≡ Some refusal → first ≡ Some refusal′ → refusal ≡ refusal′
same_refusal first refusal refusal′ p q = cc

module _ {size : ℕ} {received : List ℕ} where
  delivered_once : (block block′ : List ℕ) (d d′ : Delivery) → Delivers size received d block → Delivers size received d′ block′
      → (block ≡ block′) × (d ≡ d′)
  delivered_once block block′ d d′ p q = (same.0, λ i. record { header = says i; repair = same.1 i; units = units i })
    where
      same : (block ≡ block′) × (d.repair ≡ d′.repair)
      same = repaired_once size received block block′ d.repair d′.repair p.repaired q.repaired

      says : d.header ≡ d′.header
      says = cc (p.header_is, q.header_is, ap (header size) same.0)

      units : d.units ≡ d′.units
      units = p.units_are ∙ ap₂ states_of_units says same.0 ∙ sym q.units_are

  missed_once : {refusal refusal′ : Refusal} → Misread size received refusal → Misread size received refusal′ → refusal ≡ refusal′
  missed_once {refusal} {refusal′} p q =
      let same = repaired_once size received p.block q.block p.repair q.repair p.repaired q.repaired in
      cc (p.refused, q.refused, ap (header size) same.0)

-- The choices at a call, one after another.
module _ (r : Reception) (lent : List ℕ) where
  -- what a block delivers: the buffer and what comes with it
  abbrev Delivering : (frame : List ℕ) → (List ℕ × Delivery → Type 0) → Event → Reception → Type 0
  Delivering frame F = Given (List ℕ × Delivery) F (λ x. Exactly (pulled lent (Ok (Delivered x.1)) x.0) (taking r Locked [] 0))

  abbrev Hunts : List ℕ → Event → Reception → Type 0
  Hunts frame =
      Either (IsCleanAndLegible r.size (received r frame)) (Delivering frame (λ x. Delivers r.size (received r frame) x.1 x.0))
      (IsCleanAndLegible r.size (received r frame) → ⊥)
      (Exactly (pulled lent (Ok Held) lent) (taking r Hunting (drop 1 (with_frame r frame)) r.misses))

  abbrev MissesOne : List ℕ → Refusal → Event → Reception → Type 0
  MissesOne frame refusal =
      Either (r.misses + 1 < r.patience) (Exactly (pulled lent (Ok (Missed refusal)) lent) (taking r Locked [] (r.misses + 1)))
      (r.patience ≤ r.misses + 1) (Exactly (pulled lent (Ok (Missed refusal)) lent) (taking r Hunting (drop 1 (with_frame r frame)) 0))

  abbrev Follows : List ℕ → Event → Reception → Type 0
  Follows frame =
      Either (IsLegible r.size (received r frame)) (Delivering frame (λ x. Delivers r.size (received r frame) x.1 x.0))
      (IsLegible r.size (received r frame) → ⊥) (Given Refusal (Misread r.size (received r frame)) (MissesOne frame))

  abbrev TakesOne : List ℕ → Event → Reception → Type 0
  TakesOne frame =
      Either (length r.held + 1 < 5) (Exactly (pulled lent (Ok Held) lent) (taking r r.mode (with_frame r frame) r.misses))
      (Fifth r) (Either (r.mode ≡ Hunting) (Hunts frame) (r.mode ≡ Locked) (Follows frame))

  abbrev Pulls : Event → Reception → Type 0
  Pulls =
      Either (Ready r lent → ⊥)
      (Given Refusal (λ refusal. first_refusal (pull_complaints r lent) ≡ Some refusal) (λ refusal. Exactly (pulled lent (Err refusal) lent) r))
      (Ready r lent)
      (Either (r.source.waiting ≡ []) (Exactly (pulled lent (Ok NothingWaiting) lent) r)
      (r.source.waiting ≡ [] → ⊥) (Given (List ℕ) (InFront r) TakesOne))

  only_delivering : (frame : List ℕ) → Only (Delivering frame (λ x. Delivers r.size (received r frame) x.1 x.0))
  only_delivering frame =
      only_given
      (λ x x′ p q. let same = delivered_once x.0 x′.0 x.1 x′.1 p q in (λ i. (same.0 i, same.1 i)))
      (λ x. only_exactly (pulled lent (Ok (Delivered x.1)) x.0) (taking r Locked [] 0))

  not_two_modes : r.mode ≡ Hunting → r.mode ≡ Locked → ⊥
  not_two_modes p q = cc

  only_pulls : Only Pulls
  only_pulls =
      only_either (λ not ready. not ready)
      (λ _. only_given (same_refusal (first_refusal (pull_complaints r lent))) (λ refusal. only_exactly (pulled lent (Err refusal) lent) r))
      (λ _. only_either (λ none some. some none)
      (λ _. only_exactly (pulled lent (Ok NothingWaiting) lent) r)
      (λ _. only_given (λ frame frame′ p q. ap (λ frames. get_or frames 0 []) (sym p ∙ q)) takes_one))
    where
      misses : (frame : List ℕ) (refusal : Refusal) → Only (MissesOne frame refusal)
      misses frame refusal =
          only_either (λ less more. omega arith)
          (λ _. only_exactly (pulled lent (Ok (Missed refusal)) lent) (taking r Locked [] (r.misses + 1)))
          (λ _. only_exactly (pulled lent (Ok (Missed refusal)) lent) (taking r Hunting (drop 1 (with_frame r frame)) 0))

      five : (frame : List ℕ) → Only (Either (r.mode ≡ Hunting) (Hunts frame) (r.mode ≡ Locked) (Follows frame))
      five frame =
          only_either not_two_modes
          (λ _. only_either (λ clean not. not clean) (λ _. only_delivering frame)
          (λ _. only_exactly (pulled lent (Ok Held) lent) (taking r Hunting (drop 1 (with_frame r frame)) r.misses)))
          (λ _. only_either (λ readable not. not readable) (λ _. only_delivering frame)
          (λ _. only_given (λ refusal refusal′ p q. missed_once p q) (misses frame)))

      takes_one : (frame : List ℕ) → Only (TakesOne frame)
      takes_one frame =
          only_either (λ few five. omega arith)
          (λ _. only_exactly (pulled lent (Ok Held) lent) (taking r r.mode (with_frame r frame) r.misses)) (λ _. five frame)

-- the choices that the rules leave a call
abbrev Choices : Reception → Asked → Event → Reception → Type 0
Choices r (pull lent) = Pulls r lent
Choices r (offer frame) =
    Given (Source × Result Unit Refusal) (λ x. Offers r.source frame x.0 x.1) (λ x. Exactly (offered frame x.1) (record r { source = x.0 }))
Choices r reset = Exactly restarted (record r { mode = Hunting; held = []; misses = 0 })
Choices r (patience number) =
    Either (first_refusal (patience_complaints number) ≡ None) (Exactly (patience_set number (Ok tt)) (record r { patience = number }))
    (first_refusal (patience_complaints number) ≡ None → ⊥)
    (Given Refusal (λ refusal. first_refusal (patience_complaints number) ≡ Some refusal) (λ refusal. Exactly (patience_set number (Err refusal)) r))
Choices r report = Exactly (reported (report_of r)) r

only_choice : (r : Reception) (asked : Asked) → Only (Choices r asked)
only_choice r (pull lent) = only_pulls r lent
only_choice r (offer frame) =
    only_given (λ x x′ p q. let same = determined.offer_unique r.source frame x.0 x′.0 x.1 x′.1 p q in (λ i. (same.0 i, same.1 i)))
    (λ x. only_exactly (offered frame x.1) (record r { source = x.0 }))
only_choice r reset = only_exactly restarted (record r { mode = Hunting; held = []; misses = 0 })
only_choice r (patience number) =
    only_either (λ none not. not none) (λ _. only_exactly (patience_set number (Ok tt)) (record r { patience = number }))
    (λ _. only_given (same_refusal (first_refusal (patience_complaints number))) (λ refusal. only_exactly (patience_set number (Err refusal)) r))
only_choice r report = only_exactly (reported (report_of r)) r

this : {e : Event} {after : Reception} → Exactly e after e after
this = record { event = refl; receiver = refl }

-- a frame is taken
took : (r : Reception) (lent frame : List ℕ) (e : Event) (after : Reception) → Ready r lent → InFront r frame → TakesOne r lent frame e after
    → Pulls r lent e after
took r lent frame e after ready front takes =
    other ready (other (λ none. absurd (omega (arith, ap length (sym none ∙ front)))) (given frame front takes))

by_rule : {r after : Reception} {e : Event} → Rule r e after → Choices r (asked_by e) e after
by_rule (pull_refused {refusal = refusal} refused) = one (λ ready. not_both _ refusal ready refused) (given refusal refused this)
by_rule (nothing_waits ready none) = other ready (one none this)
by_rule (gathers {r = r} {buffer = lent} {frame = frame} ready front few) = took r lent frame _ _ ready front (one few this)
by_rule (finds {r = r} {buffer = lent} {frame = frame} {block = block} {d = d} ready front five hunting delivers none_left) =
    took r lent frame _ _ ready front
    (other five (one hunting (one (clean (admitted r lent ready).in_range delivers none_left) (given (block, d) delivers this))))
by_rule (passes_by {r = r} {buffer = lent} {frame = frame} ready front five hunting not) =
    took r lent frame _ _ ready front (other five (one hunting (other not this)))
by_rule (follows {r = r} {buffer = lent} {frame = frame} {block = block} {d = d} ready front five locked delivers) =
    took r lent frame _ _ ready front (other five (other locked (one (legible delivers) (given (block, d) delivers this))))
by_rule (misses_one {r = r} {buffer = lent} {frame = frame} {refusal = refusal} ready front five locked misses less) =
    took r lent frame _ _ ready front (other five (other locked (other (never_both r.size (received r frame) refusal misses) (given refusal misses (one less this)))))
by_rule (loses_lock {r = r} {buffer = lent} {frame = frame} {refusal = refusal} ready front five locked misses more) =
    took r lent frame _ _ ready front (other five (other locked (other (never_both r.size (received r frame) refusal misses) (given refusal misses (other more this)))))
by_rule (passes_on {after = after} {answer = answer} offers) = given (after, answer) offers this
by_rule restarts = this
by_rule (sets_patience none) = one none this
by_rule (keeps_patience {refusal = refusal} refused) = other (λ none. not_both _ refusal none refused) (given refusal refused this)
by_rule reports = this

pub unique : (r after after′ : Reception) (e e′ : Event) → asked_by e ≡ asked_by e′ → Rule r e after → Rule r e′ after′ → (e ≡ e′) × (after ≡ after′)
unique r after after′ e e′ same rule rule′ =
    only_choice r (asked_by e) e e′ after after′ (by_rule rule) (subst (λ asked. Choices r asked e′ after′) (sym same) (by_rule rule′))
