-- The steps of reading a header answer the first refusal of the list.
use Rattle.std.proofs.Common.{◌≡◌, ℕ, ◌-◌, ◌*◌, Bool, true, false, cond, not, ◌&&◌, eqb, leb, List, [], ◌∷◌, length, get_or, drop, is_some, Some, None, Ok, Err, Option, Result, unwrap_or, sym, refl, ◌∙◌, arith}
use Rattle.gf.specs.declared.refusal.Refusal.{Refusal}
use Rattle.gf.specs.declared.refusal.Refusal.TheVariants as refusals
use Rattle.gf.specs.Refusals.{unless, first_refusal}
use Rattle.block.specs.declared.fault.HeaderFault.{HeaderFault}
use Rattle.block.specs.declared.fault.HeaderFault.TheVariants as faults
use Rattle.block.specs.declared.header.Header.{Header}
use Rattle.block.specs.Layouts.{refused, parameters, right}
use Rattle.block.specs.Headers.{starts, fire_fits, fills, of_block, layout_of, written, crowded_of, header}
use Rattle.block.specs.steps.Reading.{spaced, parted, opened}

-- where the size and the buffer are right, the other conditions decide
pub past_block : {A : Type 0} (size : ℕ) (block : List ℕ) → first_refusal (of_block size block []) ≡ None
    → (others : List (Bool × Refusal)) (value : A) → unless (of_block size block others) value ≡ unless others value
past_block {A} size block sized others value = by (not (leb 1 size && leb size 24)) (not (eqb (length block) (120 * size))) sized
  where
    by : (a b : Bool) → cond a (Some refusals.Size) (cond b (Some refusals.Buffer) None) ≡ None
        → cond a (Err refusals.Size) (cond b (Err refusals.Buffer) (unless others value)) ≡ unless others value
    by true b e = absurd (let z : ◌≡◌ {A = ℕ} 0 1 = cc in omega arith)
    by false true e = absurd (let z : ◌≡◌ {A = ℕ} 0 1 = cc in omega arith)
    by false false e = refl

-- a fault as the refusal that it is
abbrev pub converted : Result Header HeaderFault → Result Header Refusal
converted (Ok h) = Ok h
converted (Err fault) = Err (refused fault)

module _ (size : ℕ) (block : List ℕ) where
  abbrev crowds : Option ℕ → List (Bool × Refusal)
  crowds found = (is_some found, refusals.Starts (unwrap_or found 0)) ∷ []

  abbrev aligns : Bool → List (Bool × Refusal)
  aligns filled = (not filled, refusals.Alignment ((layout_of block).header_length - 1)) ∷ crowds (crowded_of size block)

  -- the conditions behind the size and the buffer
  abbrev fires : Bool → List (Bool × Refusal)
  fires fits =
      (not fits, refusals.Fire) ∷ (not (right (get_or block 2 0)), refusals.Parameters) ∷ aligns (fills (layout_of block) (drop 3 block))

  by_found : (found : Option ℕ)
      → converted (spaced size (parameters (get_or block 2 0)) (starts (layout_of block) size (drop 3 block)) found) ≡ unless (crowds found) (written size block)
  by_found (Some n) = refl
  by_found None = refl

  by_fill : (filled : Bool)
      → converted (cond filled (spaced size (parameters (get_or block 2 0)) (starts (layout_of block) size (drop 3 block)) (crowded_of size block))
      (Err (faults.Alignment ((layout_of block).header_length - 1)))) ≡ unless (aligns filled) (written size block)
  by_fill true = by_found (crowded_of size block)
  by_fill false = refl

  by_read : (ok : Bool)
      → converted (parted size (drop 3 block) (cond ok (Ok (parameters (get_or block 2 0))) (Err faults.Parameters)))
      ≡ unless ((not ok, refusals.Parameters) ∷ aligns (fills (layout_of block) (drop 3 block))) (written size block)
  by_read true = by_fill (fills (layout_of block) (drop 3 block))
  by_read false = refl

  by_fire : (fits : Bool)
      → converted (cond fits (parted size (drop 3 block) (cond (right (get_or block 2 0)) (Ok (parameters (get_or block 2 0))) (Err faults.Parameters))) (Err faults.Fire))
      ≡ unless (fires fits) (written size block)
  by_fire true = by_read (right (get_or block 2 0))
  by_fire false = refl

  pub opened-header : first_refusal (of_block size block []) ≡ None → converted (opened size block) ≡ header size block
  opened-header sized = by_fire (fire_fits block) ∙ sym (past_block size block sized (fires (fire_fits block)) (written size block))
