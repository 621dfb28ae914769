-- Where the units of an open super frame stand: within it, one behind another.
use Rattle.std.proofs.Common.{◌≡◌, ℕ, zero, suc, ◌+◌, ◌-◌, ◌*◌, ◌≤◌, List, get_or, subst, add-one, arith}
use Rattle.block.specs.declared.settings.Settings.{Settings}
use Rattle.block.specs.SuperFrames.{layout_for}
use Rattle.block.specs.Places.{Placed}

module _ (s : Settings) (starts : List ℕ) (added : ℕ) (p : Placed s starts added) where
  later : (gap n : ℕ) → n + gap ≡ added → get_or starts n 0 + 3 * gap ≤ get_or starts added 0
  later zero n e = let same : n ≡ added = omega arith in subst (λ (k : ℕ). get_or starts n 0 + 3 * 0 ≤ get_or starts k 0) same (omega arith)
  later (suc gap) n e = omega (arith, p.apart n (omega arith), later gap (n + 1) (omega arith))

  earlier : (n : ℕ) → n ≤ added → get_or starts 0 0 + 3 * n ≤ get_or starts n 0
  earlier zero h = omega arith
  earlier (suc n) h = subst (λ (k : ℕ). get_or starts 0 0 + 3 * suc n ≤ get_or starts k 0) (add-one n) (omega (arith, p.apart n (omega arith), earlier n (omega arith)))

  -- no start is behind the end of the super frame
  pub start-le_end : (n : ℕ) → n ≤ added → get_or starts n 0 ≤ 110 * s.size
  start-le_end n h = omega (arith, later (added - n) n (omega arith), p.room)

  -- and none before the end of the header
  pub header-le_start : (n : ℕ) → n ≤ added → (layout_for s).header_length ≤ get_or starts n 0
  header-le_start n h = omega (arith, earlier n h, p.first)

  start-le_later : (n gap : ℕ) → n + gap ≤ added → get_or starts n 0 ≤ get_or starts (n + gap) 0
  start-le_later n zero h = let same : n ≡ n + 0 = omega arith in subst (λ (k : ℕ). get_or starts n 0 ≤ get_or starts k 0) same (omega arith)
  start-le_later n (suc gap) h =
      let next : n + gap + 1 ≡ n + suc gap = omega arith in
      subst (λ (k : ℕ). get_or starts n 0 ≤ get_or starts k 0) next (omega (arith, start-le_later n gap (omega arith), p.apart (n + gap) (omega arith)))

  -- starts ascend
  pub start-le_start : (m n : ℕ) → m ≤ n → n ≤ added → get_or starts m 0 ≤ get_or starts n 0
  start-le_start m n h b =
      let same : m + (n - m) ≡ n = omega arith in
      subst (λ (k : ℕ). get_or starts m 0 ≤ get_or starts k 0) same (start-le_later m (n - m) (omega arith))
