-- Filling the checks of a block's rows, one after another.
use Rattle.std.proofs.Common.{◌≡◌, ℕ, ◌+◌, ◌-◌, ◌*◌, ◌<◌, ◌≤◌, List, length, get_or, sym, refl, ap, ◌∙◌, subst, below_more, arith}
use Rattle.std.proofs.lemmas.List.{get_or-take}
use Rattle.gf.specs.Fields.{gf256}
use Rattle.gf.specs.Bits.{bits}
use Rattle.codes.specs.Codewords.{Filled}
use Rattle.interleaver.specs.Rows.{row_of, ChecksFilled}
use Rattle.interleaver.specs.steps.OneRow.{OnlyRow}
use Rattle.interleaver.proofs.Lists.{same_take}
use Rattle.interleaver.proofs.Places.{length-row_of, row_and_column, same_byte_at}

module _ (rows symbols checks : ℕ) where
  abbrev row : List ℕ → ℕ → List ℕ
  row block i = row_of rows symbols block i

  -- the first rows are filled, and the others are as they were
  pub record FilledTo (done : ℕ) (before now : List ℕ) : Type 0 where
    pub long : length now ≡ length before
    pub by_row : (i : ℕ) → i < done → Filled gf256 (bits 8) checks (row before i) (row now i)
    pub rest : (i : ℕ) → done ≤ i → i < rows → row now i ≡ row before i

  pub filled_none : (block : List ℕ) → FilledTo 0 block block
  filled_none block = record { long = refl; by_row = λ i h. absurd (omega arith); rest = λ i h k. refl }

  -- one row more is filled
  pub filled_more : (done : ℕ) (before now next : List ℕ) → done < rows → FilledTo done before now
      → OnlyRow rows symbols done (row next done) now next → Filled gf256 (bits 8) checks (row now done) (row next done)
      → FilledTo (done + 1) before next
  filled_more done before now next b p o w = record {
    long = o.long ∙ p.long;
    by_row = below_more (λ i. Filled gf256 (bits 8) checks (row before i) (row next i)) done
        (λ i h. subst (Filled gf256 (bits 8) checks (row before i)) (sym (o.others i (omega arith) (λ e. omega arith))) (p.by_row i h))
        (subst (λ v. Filled gf256 (bits 8) checks v (row next done)) (p.rest done (omega arith) b) w);
    rest = λ i h k. o.others i k (λ e. omega arith) ∙ p.rest i (omega arith) k;
  }

  -- where every row is filled, the data of the block are as they were
  pub filled_all : (before after : List ℕ) → FilledTo rows before after → ChecksFilled rows symbols checks before after
  filled_all before after p = record {
    long = p.long;
    data_kept = same_take 0 (rows * (symbols - checks)) after before p.long at;
    by_row = p.by_row;
  }
    where
      at : (k : ℕ) → k < rows * (symbols - checks) → get_or after k 0 ≡ get_or before k 0
      at k h =
          let c = row_and_column rows (symbols - checks) k h in
          let first : ℕ = length (row before c.0) - checks in
          let inside : c.1 < first = omega (arith, length-row_of rows symbols before c.0, c.3) in
          subst (λ (k : ℕ). get_or after k 0 ≡ get_or before k 0) c.4
          (same_byte_at rows symbols after before c.0 c.1 (omega (arith, c.3))
          (sym (get_or-take first (row after c.0) c.1 0 inside) ∙ ap (λ v. get_or v c.1 0) (p.by_row c.0 c.2).data_kept
          ∙ get_or-take first (row before c.0) c.1 0 inside))
