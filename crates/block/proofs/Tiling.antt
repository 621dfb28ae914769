-- The units of an opened header lie one behind another.
use Rattle.std.proofs.Common.{◌≡◌, ℕ, zero, suc, ◌+◌, ◌-◌, ◌*◌, ◌<◌, ◌≤◌, Bool, true, false, cond, not, ◌&&◌, eqb, ltb, leb, List, [], ◌∷◌, length, get_or, drop, is_some, IfOk, Some, None, Option, Result, unwrap_or, sym, refl, ap, ◌∙◌, subst, ⊎_elim, add-sub_cancel, arith, ltb-false}
use Rattle.std.proofs.lemmas.Bool.{cases_eq}
use Rattle.gf.specs.declared.refusal.Refusal.{Refusal}
use Rattle.gf.specs.declared.refusal.Refusal.TheVariants as refusals
use Rattle.gf.specs.Refusals.{unless}
use Rattle.block.specs.declared.header.Header.{Header}
use Rattle.block.specs.declared.parameters.Layout.{Layout}
use Rattle.block.specs.Layouts.{parameters, right}
use Rattle.block.specs.Headers.{starts, crowded, fire_fits, fills, layout_of, written, crowded_of, header, Tiles}
use Rattle.block.specs.steps.Reading.{Fits}
use Rattle.block.proofs.Starts.{layout_fits, start_at, start_last}

-- no start is crowded where the search finds none
uncrowded : (places : List ℕ) (n count : ℕ) → crowded places n count ≡ None
    → (k : ℕ) → n ≤ k → k < n + count → get_or places (k - 1) 0 + 3 ≤ get_or places k 0
uncrowded places n zero e k low high = absurd (omega arith)
uncrowded places n (suc count) e k low high =
    by (ltb (get_or places n 0) (get_or places (n - 1) 0 + 3)) refl e (λ later above. uncrowded places (suc n) count later k above (omega arith))
  where
    by : (b : Bool) → ltb (get_or places n 0) (get_or places (n - 1) 0 + 3) ≡ b → cond b (Some n) (crowded places (suc n) count) ≡ None
        → (crowded places (suc n) count ≡ None → suc n ≤ k → get_or places (k - 1) 0 + 3 ≤ get_or places k 0)
        → get_or places (k - 1) 0 + 3 ≤ get_or places k 0
    by true t e later = absurd (let z : ◌≡◌ {A = ℕ} 0 1 = cc in omega arith)
    by false t e later =
        ⊎_elim (λ (q : k ≡ n). omega (arith, ap (λ (i : ℕ). get_or places i 0) q, ap (λ (i : ℕ). get_or places (i - 1) 0) q, ltb-false _ _ t))
        (λ (q : k ≡ n → ⊥). later e (omega arith)) (cases_eq k n)

module _ (size : ℕ) (block : List ℕ) where
  -- what the block writes, where no start is crowded
  tiled : crowded_of size block ≡ None → Tiles (written size block)
  tiled e = record {
    first = start_at l size (drop 3 block) 0 (omega arith);
    apart = λ n h. behind n (uncrowded (starts l size (drop 3 block)) 1 l.units e (n + 1) (omega arith) (omega arith));
    last = start_at l size (drop 3 block) l.units (omega (arith, f.few)) ∙ start_last l size (drop 3 block) l.units (omega (arith, f.some)) refl;
  }
    where
      l : Layout
      l = layout_of block

      f : Fits (layout_of block)
      f = layout_fits (parameters (get_or block 2 0)).dac (parameters (get_or block 2 0)).sbr

      behind : (n : ℕ) → get_or (starts l size (drop 3 block)) (n + 1 - 1) 0 + 3 ≤ get_or (starts l size (drop 3 block)) (n + 1) 0
          → get_or (starts l size (drop 3 block)) n 0 + 3 ≤ get_or (starts l size (drop 3 block)) (n + 1) 0
      behind n h =
          subst (λ (k : ℕ). get_or (starts l size (drop 3 block)) k 0 + 3 ≤ get_or (starts l size (drop 3 block)) (n + 1) 0) (add-sub_cancel n 1) h

  tiles : IfOk (header size block) Tiles
  tiles =
      by (not (leb 1 size && leb size 24)) (not (eqb (length block) (120 * size))) (not (fire_fits block)) (not (right (get_or block 2 0)))
      (not (fills (layout_of block) (drop 3 block))) (crowded_of size block) refl
    where
      by : (a b c d e : Bool) (found : Option ℕ) → crowded_of size block ≡ found
          → IfOk (unless ((a, refusals.Size) ∷ (b, refusals.Buffer) ∷ (c, refusals.Fire) ∷ (d, refusals.Parameters)
          ∷ (e, refusals.Alignment ((layout_of block).header_length - 1)) ∷ (is_some found, refusals.Starts (unwrap_or found 0)) ∷ []) (written size block)) Tiles
      by true b c d e found h = tt
      by false true c d e found h = tt
      by false false true d e found h = tt
      by false false false true e found h = tt
      by false false false false true found h = tt
      by false false false false false (Some n) h = tt
      by false false false false false None h = tiled h

  pub tiled_answer : (answer : Result Header Refusal) → answer ≡ header size block → IfOk answer Tiles
  tiled_answer answer e = subst (λ r. IfOk r Tiles) (sym e) tiles
