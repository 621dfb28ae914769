-- Where a choice of events and receivers leaves but one.
use Rattle.std.proofs.Common.{◌≡◌, sym, ◌∙◌, subst}
use Rattle.reception.specs.Receptions.{Reception, Event}

-- at most one event, and one receiver after it
abbrev pub Only : (Event → Reception → Type 0) → Type 0
Only P = (e e′ : Event) (after after′ : Reception) → P e after → P e′ after′ → (e ≡ e′) × (after ≡ after′)

-- this event and this receiver
pub record Exactly (x : Event) (y : Reception) (e : Event) (after : Reception) : Type 0 where
  pub event : e ≡ x
  pub receiver : after ≡ y

-- this choice where this is so, and the other where the other is
pub data Either (A : Type 0) (P : Event → Reception → Type 0) (B : Type 0) (Q : Event → Reception → Type 0) (e : Event)
    (after : Reception) : Type 0 where
  one : A → P e after → Either A P B Q e after
  other : B → Q e after → Either A P B Q e after

-- a choice that is given by something of which this is true
pub data Given (X : Type 0) (F : X → Type 0) (P : X → Event → Reception → Type 0) (e : Event) (after : Reception) : Type 0 where
  given : (x : X) → F x → P x e after → Given X F P e after

pub only_exactly : (x : Event) (y : Reception) → Only (Exactly x y)
only_exactly x y e e′ after after′ p q = (p.event ∙ sym q.event, p.receiver ∙ sym q.receiver)

module _ {A B : Type 0} {P Q : Event → Reception → Type 0} (apart : A → B → ⊥) (only_one : A → Only P) (only_other : B → Only Q) where
  pub only_either : Only (Either A P B Q)
  only_either e e′ after after′ (one a p) (one _ q) = only_one a e e′ after after′ p q
  only_either e e′ after after′ (one a p) (other b q) = absurd (apart a b)
  only_either e e′ after after′ (other b p) (one a q) = absurd (apart a b)
  only_either e e′ after after′ (other b p) (other _ q) = only_other b e e′ after after′ p q

module _ {X : Type 0} {F : X → Type 0} {P : X → Event → Reception → Type 0} (same : (x x′ : X) → F x → F x′ → x ≡ x′)
    (only : (x : X) → Only (P x)) where
  pub only_given : Only (Given X F P)
  only_given e e′ after after′ (given x f p) (given x′ f′ q) = only x′ e e′ after after′ (subst (λ z. P z e after) (same x x′ f f′) p) q
