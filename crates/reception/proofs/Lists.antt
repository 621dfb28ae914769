-- Lists: ends, windows of five, and elements by their place.
use Rattle.std.proofs.Common.{◌≡◌, ℕ, zero, suc, ◌+◌, ◌<◌, ◌≤◌, List, [], ◌∷◌, ◌++◌, length, take, drop, take_at, drop_at, sym, ap, ◌∙◌, arith}
use Rattle.std.proofs.lemmas.List.{length-append, append_assoc}
use Rattle.reception.specs.Recovery.{At, here, there}

module _ {A : Type 0} where
  pub same_head : {x y : A} {xs ys : List A} → x ∷ xs ≡ y ∷ ys → x ≡ y
  same_head e = cc

  pub same_tail : {x y : A} {xs ys : List A} → x ∷ xs ≡ y ∷ ys → xs ≡ ys
  same_tail e = cc

  -- of two ways to cut a list, the later cut leaves an end of what the earlier one leaves
  pub end_of : (a b c d : List A) → a ++ b ≡ c ++ d → length a ≤ length c → (x : List A) × (b ≡ x ++ d)
  end_of [] b c d e h = (c, e)
  end_of (y ∷ a) b [] d e h = absurd (omega arith)
  end_of (y ∷ a) b (z ∷ c) d e h = end_of a b c d (same_tail e) (omega arith)

  -- five in a row, behind so many others
  pub five_behind : (x held : List A) (f : A) (more : List A) (n : ℕ) → length x ≡ n → length held + 1 ≡ 5
      → take 5 (drop n ((x ++ held) ++ f ∷ more)) ≡ held ++ f ∷ []
  five_behind x held f more n e five =
      ap (λ l. take 5 (drop n l)) (append_assoc x held (f ∷ more))
      ∙ ap (take 5) (drop_at x (held ++ f ∷ more) n e)
      ∙ ap (take 5) (sym (append_assoc held (f ∷ []) more))
      ∙ take_at (held ++ f ∷ []) more 5 (length-append held (f ∷ []) ∙ five)

  -- what ends in five ends in the last four of them
  pub without_oldest : (h older held : List A) (f : A) → h ≡ older ++ held → length held + 1 ≡ 5
      → (more : List A) × (h ++ f ∷ [] ≡ more ++ drop 1 (held ++ f ∷ []))
  without_oldest h older [] f e five = absurd (omega arith)
  without_oldest h older (g ∷ gs) f e five =
      (older ++ g ∷ [], ap (λ l. l ++ f ∷ []) e ∙ append_assoc older (g ∷ gs) (f ∷ []) ∙ sym (append_assoc older (g ∷ []) (gs ++ f ∷ [])))

  pub four_left : (held : List A) (f : A) → length held + 1 ≡ 5 → length (drop 1 (held ++ f ∷ [])) ≡ 4
  four_left [] f five = absurd (omega arith)
  four_left (g ∷ gs) f five = let e : length (gs ++ f ∷ []) ≡ length gs + 1 = length-append gs (f ∷ []) in omega arith

  pub at_exists : (xs : List A) (i : ℕ) → i < length xs → (x : A) × At xs i x
  at_exists [] i h = absurd (omega arith)
  at_exists (x ∷ xs) zero h = (x, here)
  at_exists (x ∷ xs) (suc i) h = let r = at_exists xs i (omega arith) in (r.0, there r.1)
