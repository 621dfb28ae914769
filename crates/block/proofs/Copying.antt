-- Copying bytes into a buffer: the part that is written, and the parts before it.
use Rattle.std.proofs.Common.{◌≡◌, ℕ, ◌+◌, ◌-◌, ◌≤◌, List, ◌++◌, length, take, drop, length-take-le, sym, ap, ◌∙◌, take_at, drop_at, arith}
use Rattle.std.proofs.lemmas.List.{drop-take, take-append-le, take-take}

module _ {X : Type 0} (at : ℕ) (block ys rest : List X) (within : at ≤ length block) where
  pub part_written : (n : ℕ) → n ≡ length ys → take n (drop at (take at block ++ (ys ++ rest))) ≡ ys
  part_written n e =
      ap (take n) (drop_at (take at block) (ys ++ rest) at (length-take-le at block within)) ∙ take_at ys rest n (sym e)

  pub part_before : (low high : ℕ) → low ≤ high → high ≤ at
      → take (high - low) (drop low (take at block ++ (ys ++ rest))) ≡ take (high - low) (drop low block)
  part_before low high h b =
      sym (cut (take at block ++ (ys ++ rest)))
      ∙ ap (drop low) (take-append-le high (take at block) (ys ++ rest) (omega (arith, length-take-le at block within)) ∙ take-take high at block b)
      ∙ cut block
    where
      cut : (xs : List X) → drop low (take high xs) ≡ take (high - low) (drop low xs)
      cut xs = ap (λ (n : ℕ). drop low (take n xs)) (let e : high ≡ low + (high - low) = omega arith in e) ∙ drop-take low (high - low) xs
