-- Over elements that can be searched, a codeword is near a word or none is.
use Rattle.std.proofs.Common.{◌≡◌, ℕ, zero, suc, ◌*◌, ◌<◌, ◌≤◌, Bool, true, false, true≢false, List, [], ◌∷◌, length, refl, sym, ap, subst, inl, inr, arith}
use Rattle.std.proofs.Math.Decide.{map_dec, dec_le}
use Rattle.std.proofs.lemmas.Bool.{cases_lt}
use Rattle.gf.specs.Theory.{Operations, Laws}
use Rattle.codes.specs.Codewords.{Codeword, syndrome, distance}
use Rattle.codes.proofs.Words.{syndromes_decide}

-- of every decided property, an element has it or none has
abbrev pub Searched : Type 0 → Type 1
Searched E = (Q : E → Type 0) → ((x : E) → Dec (Q x)) → Dec ((x : E) × Q x)

dec_both : {A B : Type 0} → Dec A → Dec B → Dec (A × B)
dec_both (yes a) d = map_dec (λ b. (a, b)) (λ p. p.1) d
dec_both (no h) d = no (λ p. h p.0)

dec_below : (Q : ℕ → Type 0) → ((i : ℕ) → Dec (Q i)) → (n : ℕ) → Dec ((i : ℕ) → i < n → Q i)
dec_below Q d zero = yes (λ i h. absurd (omega arith))
dec_below Q d (suc n) = map_dec to (λ h. ((λ i k. h i (omega arith)), h n (omega arith))) (dec_both (dec_below Q d n) (d n))
  where
    to : ((i : ℕ) → i < n → Q i) × Q n → (i : ℕ) → i < suc n → Q i
    to p i h = elim (cases_lt i n) [ inl k ↦ p.0 i k | inr k ↦ subst Q (omega arith) p.1 ]

-- words of one length can be searched
words_searched : {E : Type 0} → Searched E → (n : ℕ) (Q : List E → Type 0) → ((u : List E) → Dec (Q u)) → Dec ((u : List E) × (length u ≡ n) × Q u)
words_searched {E} s zero Q d = map_dec (λ q. ([], refl, q)) (λ p. empty p.0 p.1 p.2) (d [])
  where
    empty : (u : List E) → length u ≡ 0 → Q u → Q []
    empty [] e q = q
    empty (x ∷ u) e q = absurd (omega arith)
words_searched {E} s (suc n) Q d =
    map_dec (λ p. (p.0 ∷ p.1.0, ap suc p.1.1, p.1.2)) (λ p. behind p.0 p.1 p.2)
    (s (λ x. (u : List E) × (length u ≡ n) × Q (x ∷ u)) (λ x. words_searched s n (λ u. Q (x ∷ u)) (λ u. d (x ∷ u))))
  where
    behind : (u : List E) → length u ≡ suc n → Q u → (x : E) × ((v : List E) × (length v ≡ n) × Q (x ∷ v))
    behind [] e q = absurd (omega arith)
    behind (x ∷ u) e q = (x, (u, omega arith, q))

-- some codeword differs from the word in at most half as many places as there are checks
abbrev pub IsNear : {E : Type 0} → Operations E → ℕ → List E → Type 0
IsNear {E} f r w = (c : List E) × (length c ≡ length w) × (Codeword f r c × (distance f w c * 2 ≤ r))

module _ {E : Type 0} {f : Operations E} (l : Laws f) where
  dec_equal : (a b : E) → Dec (a ≡ b)
  dec_equal a b = by (f.equal a b) (l.equal_no a b) (l.equal_yes a b)
    where
      by : (t : Bool) → (t ≡ true → a ≡ b) → (a ≡ b → t ≡ true) → Dec (a ≡ b)
      by true g h = yes (g refl)
      by false g h = no (λ e. true≢false (sym (h e)))

  dec_codeword : (r : ℕ) (w : List E) → r ≤ f.reach → Dec (Codeword f r w)
  dec_codeword r w k =
      let same = syndromes_decide l r w k in
      map_dec same.1 same.0 (dec_below (λ i. syndrome f w i ≡ f.zero) (λ i. dec_equal (syndrome f w i) f.zero) r)

  pub dec_near : Searched E → (r : ℕ) (w : List E) → r ≤ f.reach → Dec (IsNear f r w)
  dec_near s r w k =
      words_searched s (length w) (λ c. Codeword f r c × (distance f w c * 2 ≤ r)) (λ c. dec_both (dec_codeword r c k) (dec_le (distance f w c * 2) r))
