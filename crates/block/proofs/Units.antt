-- Asking for a unit of a block, test by test.
use Rattle.std.proofs.Common.{◌≡◌, ℕ, ◌+◌, ◌-◌, ◌*◌, ◌<◌, ◌≤◌, Bool, true, false, cond, not, ◌&&◌, eqb, ltb, leb, List, [], ◌∷◌, length, get_or, take, drop, Some, None, Ok, refl, ap, ◌∙◌, ap₂, add-zero, arith, eq-eqb, leb-true}
use Rattle.std.proofs.lemmas.List.{take-take, get_or-take, get_or-drop}
use Rattle.gf.specs.declared.refusal.Refusal.TheVariants.{Buffer, Index, UnitCheck}
use Rattle.gf.specs.Refusals.{unless, first_refusal}
use Rattle.block.specs.declared.header.Header.{Header}
use Rattle.block.specs.declared.header.UnitPlace.{UnitPlace}
use Rattle.block.specs.Bytes.{word}
use Rattle.block.specs.Checks.{unit_check}
use Rattle.block.specs.Headers.{unit_count, there, unit_at, check_fits}
use Rattle.block.specs.States.{unit_complaints}

-- the header has this unit
module _ (h : Header) (block : List ℕ) (n : ℕ) (unit : UnitPlace) (present : Ok unit ≡ unit_at h n) where
  abbrev begin : ℕ
  begin = get_or h.starts n 0

  abbrev next : ℕ
  next = get_or h.starts (n + 1) 0

  pub found : (there h n ≡ true) × (unit.place ≡ begin) × (unit.length ≡ next - begin - 2) × (begin + 3 ≤ next)
  found = by (ltb n (unit_count h)) (leb (begin + 3) next) refl present
    where
      by : (a b : Bool) → leb (begin + 3) next ≡ b
          → Ok unit ≡ unless ((not (a && b), Index) ∷ []) (record { place = begin; length = next - begin - 2 })
          → ((a && b) ≡ true) × (unit.place ≡ begin) × (unit.length ≡ next - begin - 2)
          × (begin + 3 ≤ next)
      by true true t p =
          let q : unit ≡ record { place = begin; length = next - begin - 2 } = cc in
          (refl, ap (λ u. u.place) q, ap (λ u. u.length) q, leb-true _ _ t)
      by true false t p = absurd (let z : ◌≡◌ {A = ℕ} 0 1 = cc in omega arith)
      by false b t p = absurd (let z : ◌≡◌ {A = ℕ} 0 1 = cc in omega arith)

  -- the test that the program makes
  pub check_fits_is : (check behind : ℕ) → check ≡ unit_check (take unit.length (drop unit.place block)) → behind ≡ word block (unit.place + unit.length)
      → eqb check behind ≡ check_fits h block n
  check_fits_is check behind is here =
      let end : unit.place + unit.length ≡ next - 2 = omega (arith, found) in
      let long : unit.length ≡ next - 2 - begin = omega (arith, found) in
      ap₂ (λ (x y : ℕ). eqb x y) (is ∙ ap₂ (λ (k at : ℕ). unit_check (take k (drop at block))) long found.1) (here ∙ ap (word block) end)

  -- only its check is left to refuse it for
  pub unit_refused : length block ≡ 120 * h.size → (fits : Bool) → check_fits h block n ≡ fits
      → first_refusal (unit_complaints h block n) ≡ cond fits None (Some (UnitCheck n))
  unit_refused sized fits e =
      ap₂ (λ (a b : Bool). cond (not a) (Some Buffer) (cond (not b) (Some Index) (cond (not (check_fits h block n)) (Some (UnitCheck n)) None)))
      (eq-eqb (length block) (120 * h.size) sized) found.0
      ∙ ap (λ (a : Bool). cond (not a) (Some (UnitCheck n)) None) e ∙ last fits
    where
      last : (b : Bool) → cond (not b) (Some (UnitCheck n)) None ≡ cond b None (Some (UnitCheck n))
      last true = refl
      last false = refl

-- a unit that is cut out with its check, and the two again
module _ (bytes : List ℕ) (place long : ℕ) where
  pub front_part : take long (take (long + 2) (drop place bytes)) ≡ take long (drop place bytes)
  front_part = take-take long (long + 2) (drop place bytes) (omega arith)

  at_check : (i : ℕ) → i < 2 → get_or (drop long (take (long + 2) (drop place bytes))) i 0 ≡ get_or bytes (place + long + i) 0
  at_check i h =
      get_or-drop long (take (long + 2) (drop place bytes)) i 0 ∙ get_or-take (long + 2) (drop place bytes) (long + i) 0 (omega arith)
      ∙ get_or-drop place bytes (long + i) 0
      ∙ ap (λ (k : ℕ). get_or bytes k 0) (omega arith)

  pub back_part : get_or (drop long (take (long + 2) (drop place bytes))) 0 0 * 256
      + get_or (drop long (take (long + 2) (drop place bytes))) 1 0 ≡ word bytes (place + long)
  back_part =
      ap₂ (λ (x y : ℕ). x * 256 + y) (at_check 0 (omega arith) ∙ ap (λ (k : ℕ). get_or bytes k 0) (add-zero (place + long)))
      (at_check 1 (omega arith))
