-- What the loops that clear a column keep.
use Rattle.std.proofs.Common.{◌≡◌, ℕ, ◌+◌, ◌<◌, ◌≤◌, sym, refl, ◌∙◌, subst, ap₂, ⊎_elim, arith}
use Rattle.std.proofs.lemmas.Bool.{cases_eq}
use Rattle.gf.specs.Theory.{Operations}
use Rattle.codes.specs.steps.Elimination.{Added, Others, Cleared, Below}

module _ {E : Type 0} (f : Operations E) (w k : ℕ) where
  pub cleared_all : (n : ℕ) (a : ℕ → ℕ → E) (r : ℕ) (q : E) (b : ℕ → ℕ → E) → w ≤ n → k < w
      → Added f w n k a r q b → f.add (a r k) (f.mul q (a k k)) ≡ f.zero → Cleared f w k a r b
  cleared_all n a r q b long h s z = record {
    factor = q;
    added = record { before = s.before; within = λ c i j. s.within c i (omega arith); after = λ c i j. absurd (omega arith) };
    zero = s.within k (omega arith) (omega arith) ∙ z;
  }

  -- the same, from and to matrices with the same rows k and r
  recleared : (a a' : ℕ → ℕ → E) (r : ℕ) (b b' : ℕ → ℕ → E) → k < w → ((c : ℕ) → c < w → a' r c ≡ a r c) → ((c : ℕ) → c < w → a' k c ≡ a k c)
      → ((c : ℕ) → c < w → b' r c ≡ b r c) → Cleared f w k a r b → Cleared f w k a' r b'
  recleared a a' r b b' h er ek eb s = record {
    factor = s.factor;
    added = record {
      before = λ c x i. eb c x ∙ s.added.before c x i ∙ sym (er c x);
      within = λ c i x. eb c x ∙ s.added.within c i x ∙ ap₂ (λ y z. f.add y (f.mul s.factor z)) (sym (er c x)) (sym (ek c x));
      after = λ c x i. absurd (omega arith);
    };
    zero = eb k h ∙ s.zero;
  }

  pub below_more : (n : ℕ) (a b d : ℕ → ℕ → E) → k < n → k < w
      → Below f w n k a b → Cleared f w k b n d → Others w b n d → Below f w (n + 1) k a d
  below_more n a b d h hk s e o = record {
    cleared = λ r i j. ⊎_elim
        (λ (z : r ≡ n). subst (λ r. Cleared f w k a r d) (sym z)
        (recleared b a n d d hk (λ c x. sym (s.lower n c x (omega arith))) (λ c x. sym (s.upper k c x (omega arith))) (λ c x. refl) e))
        (λ (z : r ≡ n → ⊥). recleared a a r b d hk (λ c x. refl) (λ c x. refl) (λ c x. o r c x z) (s.cleared r i (omega (arith, z)))) (cases_eq r n);
    upper = λ r c i j. o r c i (λ z. omega arith) ∙ s.upper r c i j;
    lower = λ r c i j. o r c i (λ z. omega arith) ∙ s.lower r c i (omega arith);
  }
