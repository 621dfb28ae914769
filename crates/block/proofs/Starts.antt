-- The starts of a header, one by one, and the search for a crowded one.
use Rattle.std.proofs.Common.{◌≡◌, ℕ, take, length-take, zero, suc, ◌+◌, ◌-◌, ◌*◌, ◌%◌, ◌<◌, ◌≤◌, Bool, true, false, cond, not, ◌||◌, eqb, ltb, List, [], ◌∷◌, map, length, get_or, Some, sym, refl, ap, ◌∙◌, ap₂, arith, le-ltb, eq-eqb, ne_eqb}
use borrow.Author.Tests.{clash}
use Rattle.std.proofs.lemmas.List.{get_or-take}
use Rattle.block.specs.declared.parameters.DacRate.{DacRate}
use Rattle.block.specs.declared.parameters.DacRate.TheVariants.{Khz32, Khz48}
use Rattle.block.specs.declared.parameters.Layout.{Layout}
use Rattle.block.specs.Bytes.{unsigned}
use Rattle.block.specs.Layouts.{layout}
use Rattle.block.specs.Headers.{start, starts, crowded, fills}
use Rattle.block.specs.steps.Reading.{Fits}
use Rattle.block.proofs.Reading.{unsigned_lower}

pub layout_fits : (d : DacRate) (sbr : Bool) → Fits (layout d sbr)
layout_fits Khz32 true = record { some = omega arith; few = omega arith; long = omega arith; short = omega arith; ends = λ _. refl }
layout_fits Khz48 true = record { some = omega arith; few = omega arith; long = omega arith; short = omega arith; ends = λ e. absurd (clash e) }
layout_fits Khz32 false = record { some = omega arith; few = omega arith; long = omega arith; short = omega arith; ends = λ _. refl }
layout_fits Khz48 false = record { some = omega arith; few = omega arith; long = omega arith; short = omega arith; ends = λ _. refl }

-- the seven places of a list that is made number by number
seven : (f : ℕ → ℕ) (i : ℕ) → i < 7 → get_or (map f (0 ∷ 1 ∷ 2 ∷ 3 ∷ 4 ∷ 5 ∷ 6 ∷ [])) i 0 ≡ f i
seven f zero h = refl
seven f (suc zero) h = refl
seven f (suc (suc zero)) h = refl
seven f (suc (suc (suc zero))) h = refl
seven f (suc (suc (suc (suc zero)))) h = refl
seven f (suc (suc (suc (suc (suc zero))))) h = refl
seven f (suc (suc (suc (suc (suc (suc zero)))))) h = refl
seven f (suc (suc (suc (suc (suc (suc (suc i))))))) h = absurd (omega arith)

module _ (l : Layout) (size : ℕ) (packed : List ℕ) where
  pub start_last : (n : ℕ) → 1 ≤ n → n ≡ l.units → start l size packed n ≡ 110 * size
  start_last n h k =
      ap₂ (λ a b. cond a l.header_length (cond b (unsigned packed (12 * (n - 1)) 12) (cond (eqb n l.units) (110 * size) 0)))
      (ne_eqb n 0 (λ e. omega arith)) (le-ltb n l.units (omega arith))
      ∙ ap (λ a. cond a (110 * size) 0) (eq-eqb n l.units k)

  pub start_at : (n : ℕ) → n < 7 → get_or (starts l size packed) n 0 ≡ start l size packed n
  unfolding starts
  start_at n h = seven (start l size packed) n h

-- the search for a crowded start

crowded_taken : (xs : List ℕ) (m count n : ℕ) → 1 ≤ n → n + count ≤ m → crowded (take m xs) n count ≡ crowded xs n count
crowded_taken xs m zero n low high = refl
crowded_taken xs m (suc count) n low high =
    ap₂ (λ (next before : ℕ). cond (ltb next (before + 3)) (Some n) (crowded (take m xs) (suc n) count))
    (get_or-take m xs n 0 (omega arith)) (get_or-take m xs (n - 1) 0 (omega arith))
    ∙ ap (λ found. cond (ltb (get_or xs n 0) (get_or xs (n - 1) 0 + 3)) (Some n) found) (crowded_taken xs m count (suc n) (omega arith) (omega arith))

-- the starts up to the end of the last unit are searched
pub crowded_front : (xs : List ℕ) (units : ℕ) → units < length xs
    → crowded (take (units + 1) xs) 1 (length (take (units + 1) xs) - 1) ≡ crowded xs 1 units
crowded_front xs units h =
    let long : length (take (units + 1) xs) - 1 ≡ units = omega (arith, length-take (units + 1) xs) in
    ap (crowded (take (units + 1) xs) 1) long ∙ crowded_taken xs (units + 1) units 1 (omega arith) (omega arith)

-- the alignment bits
pub fills_where : (l : Layout) (packed : List ℕ) → Fits l → l.aligned ≡ true
    → eqb (get_or packed (l.header_length - 4) 0 % 16) 0 ≡ fills l packed
fills_where l packed f e =
    ap (λ (x : ℕ). eqb x 0) (sym (ap (λ (from : ℕ). unsigned packed from 4) place ∙ unsigned_lower packed (l.header_length - 4)))
    ∙ sym (ap (λ a. not a || eqb (unsigned packed (12 * (l.units - 1)) 4) 0) e)
  where
    place : 12 * (l.units - 1) ≡ 8 * (l.header_length - 4) + 4
    place = omega (arith, f.ends e, f.long)
