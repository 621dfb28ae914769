-- Writing the checks behind the units of a buffer, one after another.
use Rattle.std.proofs.Common.{◌≡◌, ℕ, zero, suc, ◌+◌, ◌-◌, ◌/◌, ◌%◌, ◌<◌, ◌≤◌, List, [], ◌∷◌, ◌++◌, length, get_or, take, drop, subst, add-one, length-take-le, length-drop, sym, ap, ◌∙◌, ap₂, append_assoc, append-nil, arith, length-append, take-append-drop, take_at, drop_at, drop-drop}
use borrow.Rule.Slice.PartMut.{put_mid}
use Rattle.std.proofs.lemmas.List.FromFn.{map-range_with_len_more}
use Rattle.block.specs.Checks.{unit_check}
use Rattle.block.specs.SuperFrames.{two_bytes, checked_units}
use Rattle.block.specs.Places.{unit_in, units_in}
use Rattle.block.proofs.UnitStarts.{checked_units-append, length-checked_units_append, length-checked_units_cons, length-unit_of, unit_end}

module _ {X : Type 0} (front rest : List X) (a e : ℕ) (here : length front ≡ a) (low : a ≤ e) (high : e - a ≤ length rest) where
  -- a part that reaches behind the front
  pub take_behind : take e (front ++ rest) ≡ front ++ take (e - a) rest
  take_behind =
      ap (λ r. take e (front ++ r)) (sym (take-append-drop (e - a) rest))
      ∙ ap (take e) (sym (append_assoc front (take (e - a) rest) (drop (e - a) rest)))
      ∙ take_at (front ++ take (e - a) rest) (drop (e - a) rest) e long
    where
      long : length (front ++ take (e - a) rest) ≡ e
      long = length-append front (take (e - a) rest) ∙ omega (arith, length-take-le (e - a) rest high, here)

  pub drop_behind : drop e (front ++ rest) ≡ drop (e - a) rest
  drop_behind =
      ap (λ (k : ℕ). drop k (front ++ rest)) (let s : e ≡ a + (e - a) = omega arith in s)
      ∙ sym (drop-drop (e - a) a (front ++ rest)) ∙ ap (drop (e - a)) (drop_at front rest a here)

  -- what is written behind the front
  pub put_mid-behind : (k : ℕ) (ys : List X) → put_mid e k (front ++ rest) ys ≡ front ++ (take (e - a) rest ++ (ys ++ drop (e - a + k) rest))
  put_mid-behind k ys =
      ap₂ (λ s t. s ++ (ys ++ drop k t)) take_behind drop_behind
      ∙ ap (λ t. (front ++ take (e - a) rest) ++ (ys ++ t)) (drop-drop k (e - a) rest)
      ∙ append_assoc front (take (e - a) rest) (ys ++ drop (e - a + k) rest)

-- the bytes before the units, and the first n units of a buffer with their checks
abbrev pub checked_to : List ℕ → List ℕ → ℕ → List ℕ
checked_to b s n = take (get_or s 0 0) b ++ checked_units (units_in s n b)

-- a number in two bytes, as the program writes them
pub two_bytes_written : (w : ℕ) → w < 65536 → w / 256 % 256 ∷ w % 256 ∷ [] ≡ two_bytes w
two_bytes_written w h = ap (λ (high : ℕ). high ∷ w % 256 ∷ []) (omega arith)

module _ (b s : List ℕ) (m : ℕ) (apart : (n : ℕ) → n < m → get_or s n 0 + 3 ≤ get_or s (n + 1) 0) (within : get_or s m 0 ≤ length b) where
  abbrev start : ℕ → ℕ
  start n = get_or s n 0

  units_in-more : (n : ℕ) → units_in s (n + 1) b ≡ units_in s n b ++ (unit_in s b n ∷ [])
  units_in-more n = map-range_with_len_more (unit_in s b) 0 n n (omega arith)

  checked_units-more : (n : ℕ) → checked_units (units_in s (n + 1) b)
      ≡ checked_units (units_in s n b) ++ (unit_in s b n ++ (two_bytes (unit_check (unit_in s b n)) ++ []))
  checked_units-more n = ap checked_units (units_in-more n) ∙ checked_units-append (units_in s n b) (unit_in s b n ∷ [])

  pub length-checked_units_in : (n : ℕ) → n ≤ m → start 0 + length (checked_units (units_in s n b)) ≡ start n
  length-checked_units_in zero h = omega arith
  length-checked_units_in (suc n) h =
      subst (λ (k : ℕ). start 0 + length (checked_units (units_in s k b)) ≡ start k) (add-one n)
      (ap (λ us. start 0 + length (checked_units us)) (units_in-more n)
      ∙ omega (
        arith,
        length-checked_units_append (units_in s n b) (unit_in s b n ∷ []),
        length-checked_units_cons (unit_in s b n) [],
        length-checked_units_in n (omega arith),
        length-unit_of b s m apart within n (omega arith),
      ))

  start-le : start 0 ≤ length b
  start-le = omega (arith, length-checked_units_in m (omega arith), within)

  pub length-checked_to : (n : ℕ) → n ≤ m → length (checked_to b s n) ≡ start n
  length-checked_to n h =
      length-append (take (start 0) b) (checked_units (units_in s n b))
      ∙ omega (arith, length-take-le (start 0) b start-le, length-checked_units_in n h)

  -- the check of one unit more is written
  pub one_more : (n : ℕ) → n < m
      → put_mid (start (n + 1) - 2) 2 (checked_to b s n ++ drop (start n) b)
      (two_bytes (unit_check (take (start (n + 1) - 2 - start n) (drop (start n) (checked_to b s n ++ drop (start n) b)))))
      ≡ checked_to b s (n + 1) ++ drop (start (n + 1)) b
  one_more n h =
      ap (λ bytes. put_mid e 2 (checked_to b s n ++ rest) (two_bytes (unit_check (take (e - start n) bytes))))
      (drop_at (checked_to b s n) rest (start n) long)
      ∙ put_mid-behind (checked_to b s n) rest (start n) e long (omega (arith, a)) (omega (arith, length-drop (start n) b, unit_end b s m apart within n h)) 2 ys
      ∙ ap (λ end. checked_to b s n ++ (u ++ (ys ++ end))) behind
      ∙ sym (ap (λ bytes. (take (start 0) b ++ bytes) ++ drop (start (n + 1)) b) (checked_units-more n) ∙ regroup)
    where
      rest : List ℕ
      rest = drop (start n) b

      e : ℕ
      e = start (n + 1) - 2

      u : List ℕ
      u = unit_in s b n

      ys : List ℕ
      ys = two_bytes (unit_check u)

      a : start n + 3 ≤ start (n + 1)
      a = apart n h

      long : length (checked_to b s n) ≡ start n
      long = length-checked_to n (omega arith)

      behind : drop (e - start n + 2) rest ≡ drop (start (n + 1)) b
      behind = drop-drop (e - start n + 2) (start n) b ∙ ap (λ (k : ℕ). drop k b) (let q : start n + (e - start n + 2) ≡ start (n + 1) = omega (arith, a) in q)

      regroup : (take (start 0) b ++ (checked_units (units_in s n b) ++ (u ++ (ys ++ [])))) ++ drop (start (n + 1)) b
          ≡ checked_to b s n ++ (u ++ (ys ++ drop (start (n + 1)) b))
      regroup = simp (append_assoc, append-nil)
