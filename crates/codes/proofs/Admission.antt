-- Which divisors are admitted, and what they begin with.
use Rattle.std.proofs.Common.{◌≡◌, ℕ, ◌+◌, ◌≤◌, true, ◌&&◌, eqb, leb, List, [], ◌∷◌, length, get_or, sym, ap, ◌∙◌, ap₂, arith, eq-eqb, eqb-true, le-leb, leb-true}
use Rattle.std.proofs.lemmas.Bool.{and_parts}
use Rattle.gf.specs.Theory.{Operations, Laws}
use Rattle.codes.specs.Division.{admitted}

module _ {E : Type 0} (f : Operations E) (places : ℕ) (w : List E) where
  -- the sizes are right: the leading symbol decides
  pub admitted_by_lead : 1 ≤ places → places ≤ 16 → length w ≡ places + 1 → f.equal (get_or w 0 f.zero) f.one ≡ admitted f w places
  admitted_by_lead low high e =
      sym (ap₂ (λ a b. a && (b && (eqb (length w) (places + 1) && f.equal (get_or w 0 f.zero) f.one))) (le-leb 1 places low) (le-leb places 16 high)
      ∙ ap (λ c. c && f.equal (get_or w 0 f.zero) f.one) (eq-eqb (length w) (places + 1) e))

-- an admitted divisor is one and as many symbols as there are places
pub admitted_begins : {E : Type 0} {f : Operations E} (l : Laws f) (places : ℕ) (w : List E) → admitted f w places ≡ true
    → (d : List E) × (w ≡ f.one ∷ d) × (length d ≡ places) × (1 ≤ places)
admitted_begins {E = E} {f = f} l places w e =
    let low = and_parts (leb 1 places) _ e in
    let high = and_parts (leb places 16) _ low.1 in
    let long = and_parts (eqb (length w) (places + 1)) _ high.1 in
    by w (eqb-true (length w) (places + 1) long.0) (l.equal_no (get_or w 0 f.zero) f.one long.1) (leb-true 1 places low.0)
  where
    by : (w : List E) → length w ≡ places + 1 → get_or w 0 f.zero ≡ f.one → 1 ≤ places
        → (d : List E) × (w ≡ f.one ∷ d) × (length d ≡ places) × (1 ≤ places)
    by [] long lead low = absurd (omega arith)
    by (a ∷ d) long lead low = (d, ap (λ x. x ∷ d) lead, omega arith, low)
