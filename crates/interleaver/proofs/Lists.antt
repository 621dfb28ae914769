-- Lists: what begins alike, how many elements pass a test, and the first place that passes.
use Rattle.std.proofs.Common.{◌≡◌, ℕ, suc, ◌+◌, ◌<◌, ◌≤◌, min, Bool, true, false, cond, eqb, nat_lt, List, [], ◌∷◌, ◌++◌, length, get_or, take, Option, Some, None, sym, refl, ap, ◌∙◌, ap₂, arith}
use Rattle.std.specs.Option.{option_or}
use Rattle.std.specs.List.{count_by, position, position_or_len}
use Rattle.std.proofs.lemmas.Bool.Decides.{nat_tests}
use Rattle.std.proofs.lemmas.List.{length_push, get_or-take, length-take, ext_get_or}
use Rattle.std.proofs.lemmas.List.Sums.{sum_by-cons, position_or_len_is, prefix_len-le-length}
use Rattle.std.proofs.lemmas.List.Folds.{position_or_len_push}

-- lists that agree at the first n places begin alike
pub same_take : {X : Type 0} (d : X) (n : ℕ) (xs ys : List X) → length xs ≡ length ys
    → ((k : ℕ) → k < n → get_or xs k d ≡ get_or ys k d) → take n xs ≡ take n ys
same_take d n xs ys long same =
    ext_get_or d (take n xs) (take n ys) (length-take n xs ∙ ap (min n) long ∙ sym (length-take n ys))
    (λ k h. let b : k < n = omega (arith, length-take n xs) in get_or-take n xs k d b ∙ same k b ∙ sym (get_or-take n ys k d b))

module _ {X : Type 0} (p : X → Bool) where
  -- a list with no element that passes
  pub count_by_none : (xs : List X) (d : X) → ((k : ℕ) → k < length xs → p (get_or xs k d) ≡ false) → count_by p xs ≡ 0
  count_by_none [] d h = refl
  count_by_none (x ∷ xs) d h =
      sum_by-cons _ x xs
      ∙ ap₂ (λ (b : Bool) (n : ℕ). cond b 1 0 + n) (h 0 (omega arith)) (count_by_none xs d (λ k b. h (suc k) (omega arith)))

  pub position_none : (xs : List X) (d : X) → ((k : ℕ) → k < length xs → p (get_or xs k d) ≡ false) → position p xs ≡ None
  position_none xs d h =
      ap (λ (n : ℕ). cond (nat_lt n (length xs)) (Some n) None)
      (position_or_len_is p xs (length xs) d (omega arith) h (λ b. absurd (omega arith)))
      ∙ past (length xs)
    where
      past : (n : ℕ) → cond (nat_lt n n) (Some n) None ≡ None
      past n = grind (arith, nat_tests)

pub option_or-none : {X : Type 0} (o : Option X) → option_or o None ≡ o
option_or-none None = refl
option_or-none (Some x) = refl

-- the first place that passes in a list with one element more, from the place in the list and its length
position_more : (first n : ℕ) (b : Bool) → first ≤ n
    → (let next : ℕ = cond (eqb first n) (n + cond b 0 1) first in cond (nat_lt next (n + 1)) (Some next) None)
    ≡ option_or (cond (nat_lt first n) (Some first) None) (cond b (Some n) None)
position_more first n true h = grind (arith, nat_tests)
position_more first n false h = grind (arith, nat_tests)

pub position_push : {X : Type 0} (p : X → Bool) (xs : List X) (y : X)
    → position p (xs ++ y ∷ []) ≡ option_or (position p xs) (cond (p y) (Some (length xs)) None)
position_push p xs y =
    ap₂ (λ (first n : ℕ). cond (nat_lt first n) (Some first) None) (position_or_len_push p xs y) (length_push xs y)
    ∙ position_more (position_or_len p xs) (length xs) (p y) (prefix_len-le-length _ xs)
