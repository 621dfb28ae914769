-- Repairing a block's rows, one after another.
use Rattle.std.proofs.Common.{◌≡◌, ℕ, ◌+◌, ◌*◌, ◌<◌, ◌≤◌, cond, List, [], ◌∷◌, ◌++◌, length, get_or, Option, Some, None, is_none, sym, refl, ap, ◌∙◌, subst, ap₂, below_more, arith}
use Rattle.std.specs.Option.{option_or, unwrap_or}
use Rattle.std.specs.List.{count_by, position}
use Rattle.std.proofs.lemmas.List.{length_push, get_or_push, get_or_append_left}
use Rattle.std.proofs.lemmas.List.Sums.{sum_by_push}
use Rattle.gf.specs.Fields.{gf256}
use Rattle.gf.specs.laws.FieldLaws.{laws256}
use Rattle.gf.specs.Bits.{bits}
use Rattle.codes.proofs.TakenOff.{distance-same}
use Rattle.interleaver.specs.declared.repair.Repair.{Repair}
use Rattle.interleaver.specs.Rows.{row_of, elements, wrong, RowRepaired, BlockRepaired}
use Rattle.interleaver.specs.steps.OneRow.{OnlyRow}
use Rattle.interleaver.proofs.Lists.{option_or-none, position_push}
use Rattle.interleaver.proofs.Counting.{total, same_total, total-more, distance-rows}

-- what a repair has done after one row more, of which so much became
abbrev pub after_row : ℕ → Repair → Option ℕ → Repair
after_row row repair None =
    record { changed = repair.changed; rows_left = repair.rows_left + 1; lowest_left = option_or repair.lowest_left (Some row) }
after_row row repair (Some count) =
    record { changed = repair.changed + count; rows_left = repair.rows_left; lowest_left = repair.lowest_left }

changed-after_row : (row : ℕ) (repair : Repair) (outcome : Option ℕ)
    → (after_row row repair outcome).changed ≡ repair.changed + unwrap_or outcome 0
changed-after_row row repair None = omega arith
changed-after_row row repair (Some count) = refl

rows_left-after_row : (row : ℕ) (repair : Repair) (outcome : Option ℕ)
    → (after_row row repair outcome).rows_left ≡ repair.rows_left + cond (is_none outcome) 1 0
rows_left-after_row row repair None = refl
rows_left-after_row row repair (Some count) = omega arith

lowest_left-after_row : (row : ℕ) (repair : Repair) (outcome : Option ℕ)
    → (after_row row repair outcome).lowest_left ≡ option_or repair.lowest_left (cond (is_none outcome) (Some row) None)
lowest_left-after_row row repair None = refl
lowest_left-after_row row repair (Some count) = sym (option_or-none repair.lowest_left)

-- the outcome of a row says in how many bytes it has changed, and few have
row_count : (checks : ℕ) (before after : List ℕ) (outcome : Option ℕ) → checks ≤ 16 → RowRepaired checks before after outcome
    → (wrong before after ≡ unwrap_or outcome 0) × (unwrap_or outcome 0 ≤ 8)
row_count checks before after None b w = (ap (wrong before) w.same ∙ distance-same laws256 (elements before), omega arith)
row_count checks before after (Some count) b w = (sym w.counted, omega (arith, w.few))

module _ (rows symbols checks : ℕ) where
  abbrev row : List ℕ → ℕ → List ℕ
  row block i = row_of rows symbols block i

  -- the first rows are repaired, and the others are as they were
  pub record RepairedTo (done : ℕ) (before now : List ℕ) (repair : Repair) : Type 0 where
    pub long : length now ≡ length before
    pub outcomes : List (Option ℕ)
    pub each : length outcomes ≡ done
    pub by_row : (i : ℕ) → i < done → RowRepaired checks (row before i) (row now i) (get_or outcomes i None)
    pub rest : (i : ℕ) → done ≤ i → i < rows → row now i ≡ row before i
    pub changed : repair.changed ≡ total done (λ i. wrong (row before i) (row now i))
    pub few : repair.changed ≤ 8 * done
    pub left : repair.rows_left ≡ count_by is_none outcomes
    pub lowest : repair.lowest_left ≡ position is_none outcomes

  pub repaired_none : (block : List ℕ) (repair : Repair)
      → (repair.changed ≡ 0) × ((repair.rows_left ≡ 0) × (repair.lowest_left ≡ None)) → RepairedTo 0 block block repair
  repaired_none block repair none = record {
    long = refl;
    outcomes = [];
    each = refl;
    by_row = λ i h. absurd (omega arith);
    rest = λ i h k. refl;
    changed = none.0;
    few = omega (arith, none.0);
    left = none.1.0;
    lowest = none.1.1;
  }

  -- one row more is repaired
  pub repaired_more : (done : ℕ) (before now next : List ℕ) (repair : Repair) (outcome : Option ℕ) → done < rows → checks ≤ 16
      → RepairedTo done before now repair → OnlyRow rows symbols done (row next done) now next
      → RowRepaired checks (row now done) (row next done) outcome → RepairedTo (done + 1) before next (after_row done repair outcome)
  repaired_more done before now next repair outcome b few p o w = record {
    long = o.long ∙ p.long;
    outcomes = outcomes;
    each = length_push p.outcomes outcome ∙ ap (λ (n : ℕ). n + 1) p.each;
    by_row = below_more (λ i. RowRepaired checks (row before i) (row next i) (get_or outcomes i None)) done
        (λ i h. subst (RowRepaired checks (row before i) (row next i))
        (sym (get_or_append_left p.outcomes (outcome ∷ []) None i (omega (arith, p.each))))
        (subst (λ v. RowRepaired checks (row before i) v (get_or p.outcomes i None)) (sym (kept i h)) (p.by_row i h)))
        (subst (RowRepaired checks (row before done) (row next done)) (sym (get_or_push p.outcomes outcome None done p.each)) here);
    rest = λ i h k. o.others i k (λ e. omega arith) ∙ p.rest i (omega arith) k;
    changed =
        changed-after_row done repair outcome
        ∙ ap₂ ◌+◌ (p.changed ∙ same_total done _ _ (λ i h. ap (wrong (row before i)) (sym (kept i h)))) (sym counted.0)
        ∙ sym (total-more done (λ i. wrong (row before i) (row next i)));
    few = omega (arith, changed-after_row done repair outcome, p.few, counted.1);
    left =
        rows_left-after_row done repair outcome ∙ ap (λ (n : ℕ). n + cond (is_none outcome) 1 0) p.left
        ∙ sym (sum_by_push _ p.outcomes outcome);
    lowest =
        lowest_left-after_row done repair outcome
        ∙ ap₂ (λ lowest (n : ℕ). option_or lowest (cond (is_none outcome) (Some n) None)) p.lowest (sym p.each)
        ∙ sym (position_push is_none p.outcomes outcome);
  }
    where
      outcomes : List (Option ℕ)
      outcomes = p.outcomes ++ outcome ∷ []

      kept : (i : ℕ) → i < done → row next i ≡ row now i
      kept i h = o.others i (omega arith) (λ e. omega arith)

      here : RowRepaired checks (row before done) (row next done) outcome
      here = subst (λ v. RowRepaired checks v (row next done) outcome) (p.rest done (omega arith) b) w

      counted : (wrong (row before done) (row next done) ≡ unwrap_or outcome 0) × (unwrap_or outcome 0 ≤ 8)
      counted = row_count checks (row before done) (row next done) outcome few here

  -- all rows are repaired
  pub repaired_all : (done : ℕ) (before after : List ℕ) (repair : Repair) → done ≡ rows → length before ≡ rows * symbols
      → RepairedTo done before after repair → BlockRepaired rows symbols checks before after repair
  repaired_all done before after repair all long q =
      let p = subst (λ (n : ℕ). RepairedTo n before after repair) all q in
      record {
        long = p.long;
        outcomes = p.outcomes;
        each = p.each;
        by_row = p.by_row;
        changed = p.changed ∙ sym (distance-rows gf256 (bits 8) rows symbols before after long (p.long ∙ long));
        left = p.left;
        lowest = p.lowest;
      }
