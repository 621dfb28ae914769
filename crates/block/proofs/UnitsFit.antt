-- Units fill a super frame exactly where making one refuses none of them.
use Rattle.std.proofs.Common.{◌≡◌, ℕ, ◌+◌, ◌-◌, ◌*◌, ◌≤◌, Bool, true, false, not, ltb, List, [], ◌∷◌, length, All, None, refl, arith, ltb-false, le-ltb}
use Rattle.std.proofs.lemmas.Bool.{and_parts, and_from}
use Rattle.std.proofs.lemmas.Bool.Decides.{nat_tests}
use Rattle.std.proofs.lemmas.List.Elements.{All-nil, All-cons, All-head, All-tail}
use Rattle.gf.specs.declared.refusal.Refusal.TheVariants.{Overfull, UnitLength, Unfinished}
use Rattle.gf.specs.Refusals.{first_refusal}
use Rattle.block.specs.declared.parameters.Layout.{Layout}
use Rattle.block.specs.declared.settings.Settings.{Settings}
use Rattle.block.specs.SuperFrames.{checked_units, layout_for, Fill}
use Rattle.block.specs.Places.{has_room}
use Rattle.block.specs.Writing.{all_fit, making_complaints}
use Rattle.block.proofs.Starts.{layout_fits}
use Rattle.block.proofs.UnitStarts.{length-checked_units_cons}

abbrev NotEmpty : List ℕ → Type 0
NotEmpty unit = 1 ≤ length unit

-- what room means
module _ (capacity start long following : ℕ) where
  room : has_room capacity start long following ≡ true
      → (1 ≤ long) × (start + long + 2 + 3 * following ≤ capacity) × (following ≡ 0 → start + long + 2 ≡ capacity)
  room e = grind (arith, nat_tests)

  room_from : 1 ≤ long → start + long + 2 + 3 * following ≤ capacity → (following ≡ 0 → start + long + 2 ≡ capacity)
      → has_room capacity start long following ≡ true
  room_from h k e = grind (arith, nat_tests)

-- units that fit, as many as are left, are not empty and end where the room does
filled : (capacity start left : ℕ) (us : List (List ℕ)) → 1 ≤ left → length us ≡ left → all_fit capacity start left us ≡ true
    → All NotEmpty us × (start + length (checked_units us) ≡ capacity)
filled capacity start left [] h e ok = absurd (omega arith)
filled capacity start left (u ∷ []) h e ok =
    let r = room capacity start (length u) (left - 1) (and_parts (has_room capacity start (length u) (left - 1)) _ ok).0 in
    (All-cons NotEmpty u [] r.0 (All-nil NotEmpty), omega (arith, r.2, length-checked_units_cons u []))
filled capacity start left (u ∷ v ∷ us) h e ok =
    let p = and_parts (has_room capacity start (length u) (left - 1)) _ ok in
    let r = room capacity start (length u) (left - 1) p.0 in
    let rest = filled capacity (start + length u + 2) (left - 1) (v ∷ us) (omega arith) (omega arith) p.1 in
    (All-cons NotEmpty u (v ∷ us) r.0 rest.0, omega (arith, rest.1, length-checked_units_cons u (v ∷ us)))

-- with its check a unit that is not empty has three bytes
three_each : (us : List (List ℕ)) → All NotEmpty us → 3 * length us ≤ length (checked_units us)
three_each [] some = omega arith
three_each (u ∷ us) some =
    omega (arith, length-checked_units_cons u us, All-head NotEmpty u us some, three_each us (All-tail NotEmpty u us some))

fits : (capacity start left : ℕ) (us : List (List ℕ)) → length us ≡ left → All NotEmpty us
    → start + length (checked_units us) ≡ capacity → all_fit capacity start left us ≡ true
fits capacity start left [] e some full = refl
fits capacity start left (u ∷ us) e some full =
    and_from (has_room capacity start (length u) (left - 1)) _ (room_from capacity start (length u) (left - 1) (All-head NotEmpty u us some) enough ends)
    (fits capacity (start + length u + 2) (left - 1) us (omega arith) (All-tail NotEmpty u us some) (omega (arith, length-checked_units_cons u us)))
  where
    enough : start + length u + 2 + 3 * (left - 1) ≤ capacity
    enough = omega (arith, length-checked_units_cons u us, three_each us (All-tail NotEmpty u us some))

    ends : left - 1 ≡ 0 → start + length u + 2 ≡ capacity
    ends z = none us (omega arith) (omega (arith, length-checked_units_cons u us))
      where
        none : (vs : List (List ℕ)) → length vs ≡ 0 → start + length u + 2 + length (checked_units vs) ≡ capacity → start + length u + 2 ≡ capacity
        none [] e f = omega arith
        none (v ∷ vs) e f = absurd (omega arith)

module _ (s : Settings) (units : List (List ℕ)) where
  complaints_none : (a b c : Bool) → first_refusal ((a, Overfull) ∷ (not b, UnitLength) ∷ (c, Unfinished) ∷ []) ≡ None
      → (a ≡ false) × (b ≡ true) × (c ≡ false)
  complaints_none true b c e = cc
  complaints_none false false c e = cc
  complaints_none false true true e = cc
  complaints_none false true false e = (refl, refl, refl)

  -- units that are not refused fill the super frame
  pub fill_from : first_refusal (making_complaints s units) ≡ None → Fill s units
  fill_from e = record { count = count; some = f.0; full = f.1 }
    where
      l : Layout
      l = layout_for s

      c : (ltb l.units (length units) ≡ false) × (all_fit (110 * s.size) l.header_length l.units units ≡ true) × (ltb (length units) l.units ≡ false)
      c = complaints_none (ltb l.units (length units)) (all_fit (110 * s.size) l.header_length l.units units) (ltb (length units) l.units) e

      count : length units ≡ l.units
      count = omega (arith, ltb-false _ _ c.0, ltb-false _ _ c.2)

      f : All NotEmpty units × (l.header_length + length (checked_units units) ≡ 110 * s.size)
      f = filled (110 * s.size) l.header_length l.units units (omega (arith, (layout_fits s.parameters.dac s.parameters.sbr).some)) count c.1

  -- units that fill the super frame are not refused
  pub first_refusal-making_complaints : Fill s units → first_refusal (making_complaints s units) ≡ None
  first_refusal-making_complaints f =
      none (ltb l.units (length units)) (all_fit (110 * s.size) l.header_length l.units units) (ltb (length units) l.units)
      (le-ltb _ _ (omega (arith, f.count))) (fits (110 * s.size) l.header_length l.units units f.count f.some f.full) (le-ltb _ _ (omega (arith, f.count)))
    where
      l : Layout
      l = layout_for s

      none : (a b c : Bool) → a ≡ false → b ≡ true → c ≡ false
          → first_refusal ((a, Overfull) ∷ (not b, UnitLength) ∷ (c, Unfinished) ∷ []) ≡ None
      none true b c p q r = cc
      none false false c p q r = cc
      none false true true p q r = cc
      none false true false p q r = refl
