-- A division whose register has the message added in front: the register holds the remainder of the message times x ^ degree.
use Rattle.std.proofs.Common.{◌≡◌, ℕ, ◌+◌, ◌-◌, ◌≤◌, List, [], ◌∷◌, ◌++◌, length, sym, refl, ap, ◌∙◌, ap₂, append_assoc, add_comm, arith, length-append}
use lib.ListN.{length-replicate, replicate-append-replicate}
use Rattle.gf.specs.Theory.{Operations, Laws}
use Rattle.codes.specs.Polynomials.{zeros, over, plus}
use Rattle.codes.specs.Division.{remainder_of}
use Rattle.codes.proofs.Lists.{cons, length_over, over_comm, over_assoc, over_zeros, over-append}
use Rattle.codes.proofs.LongDivision.{length-remainder, remainder_parts, remainder-over, remainder-zeros}

module _ {E : Type 0} {f : Operations E} (l : Laws f) where
  zeros-add : (n m : ℕ) → zeros f n ++ zeros f m ≡ zeros f (n + m)
  zeros-add n m = replicate-append-replicate n m f.zero

  over-zeros-right : (n : ℕ) (p : List E) → n ≤ length p → over f p (zeros f n) ≡ p
  over-zeros-right n p h = over_comm l p (zeros f n) ∙ over_zeros l n p h

  zeros-over-zeros : (n : ℕ) → over f (zeros f n) (zeros f n) ≡ zeros f n
  zeros-over-zeros n = over_zeros l n (zeros f n) (omega (arith, length-replicate n f.zero))

  -- zeros behind the shorter list change nothing
  over-padded : (p q : List E) (k : ℕ) → length q + k ≤ length p → over f p (q ++ zeros f k) ≡ over f p q
  over-padded p [] k h = over-zeros-right k p (omega arith) ∙ sym (over_comm l p [])
  over-padded [] (b ∷ q) k h = absurd (omega arith)
  over-padded (a ∷ p) (b ∷ q) k h = cons refl (over-padded p q k (omega arith))

  length_before : (p : List E) (n : ℕ) → length (p ++ zeros f n) ≡ length p + n
  length_before p n = length-append p (zeros f n) ∙ ap (λ (k : ℕ). length p + k) (length-replicate n f.zero)

  length_behind : (n : ℕ) (p : List E) → length (zeros f n ++ p) ≡ n + length p
  length_behind n p = length-append (zeros f n) p ∙ ap (λ (k : ℕ). k + length p) (length-replicate n f.zero)

  -- the message times x ^ n, plus `start` in front
  abbrev pub fed : ℕ → List E → List E → List E
  fed n start message = over f (message ++ zeros f n) (start ++ zeros f (length message))

  -- a sum of lists of one length needs no zeros in front
  pub plus_level : (p q : List E) → length p ≡ length q → plus f p q ≡ over f p q
  plus_level p q e = ap₂ (λ (i j : ℕ). over f (zeros f i ++ p) (zeros f j ++ q)) i j
    where
      i : length q - length p ≡ 0
      i = omega arith

      j : length p - length q ≡ 0
      j = omega arith

  module _ (n : ℕ) (start message more : List E) (sized : length start ≡ n) where
    length-fed : length (fed n start message) ≡ length message + n
    length-fed =
        length_over f (message ++ zeros f n) (start ++ zeros f (length message))
        (omega (arith, sized, length_before message n, length_before start (length message)))
        ∙ length_before start (length message) ∙ omega arith

    message_part : over f ((message ++ zeros f n) ++ zeros f (length more)) (zeros f (length message) ++ (more ++ zeros f n))
        ≡ (message ++ more) ++ zeros f n
    message_part =
        ap (λ w. over f w (zeros f (length message) ++ (more ++ zeros f n)))
        (append_assoc message (zeros f n) (zeros f (length more)) ∙ ap (λ z. message ++ z) (zeros-add n (length more)))
        ∙ over-append l message (zeros f (length message)) (zeros f (n + length more)) (more ++ zeros f n) (sym (length-replicate (length message) f.zero))
        ∙ ap₂ ◌++◌ (over-zeros-right (length message) message (omega arith))
        (over_zeros l (n + length more) (more ++ zeros f n) (omega (arith, length_before more n)))
        ∙ sym (append_assoc message more (zeros f n))

    start_part : (start ++ zeros f (length message)) ++ zeros f (length more) ≡ start ++ zeros f (length (message ++ more))
    start_part =
        append_assoc start (zeros f (length message)) (zeros f (length more))
        ∙ ap (λ z. start ++ z) (zeros-add (length message) (length more) ∙ ap (zeros f) (sym (length-append message more)))

    -- the longer message: what was fed, moved up, and the new part
    split : fed n start (message ++ more) ≡ over f (fed n start message ++ zeros f (length more)) (zeros f (length message) ++ (more ++ zeros f n))
    split =
        sym (ap (λ w. over f w (zeros f (length message) ++ (more ++ zeros f n))) widened
        ∙ over_assoc l x y w ∙ ap (over f x) (over_comm l y w) ∙ sym (over_assoc l x w y)
        ∙ ap₂ (over f) message_part start_part)
      where
        x : List E
        x = (message ++ zeros f n) ++ zeros f (length more)

        y : List E
        y = (start ++ zeros f (length message)) ++ zeros f (length more)

        w : List E
        w = zeros f (length message) ++ (more ++ zeros f n)

        widened : fed n start message ++ zeros f (length more) ≡ over f x y
        widened =
            sym (over-append l (message ++ zeros f n) (start ++ zeros f (length message)) (zeros f (length more)) (zeros f (length more))
            (length_before message n ∙ sym (length_before start (length message) ∙ omega arith))
            ∙ ap (λ z. fed n start message ++ z) (zeros-over-zeros (length more)))

  -- more of the message is added in front of the register, and as many zeros follow
  pub feed : (d start message more : List E) → length start ≡ length d → length more ≤ length d
      → remainder_of f (fed (length d) start (message ++ more)) (f.one ∷ d)
      ≡ remainder_of f (over f (remainder_of f (fed (length d) start message) (f.one ∷ d)) more ++ zeros f (length more)) (f.one ∷ d)
  feed d start message more sized short =
      ap (λ w. remainder_of f w (f.one ∷ d)) (split (length d) start message more sized)
      ∙ remainder-over l d (fed (length d) start message ++ zeros f (length more)) (zeros f (length message) ++ (more ++ zeros f (length d)))
      (length_before (fed (length d) start message) (length more) ∙ ap (λ (k : ℕ). k + length more) (length-fed (length d) start message more sized)
      ∙ sym (length_behind (length message) (more ++ zeros f (length d)) ∙ ap (λ (k : ℕ). length message + k) (length_before more (length d)) ∙ omega arith))
      ∙ ap₂ (over f) (remainder_parts l d (fed (length d) start message) (zeros f (length more))) (remainder-zeros l d (length message) (more ++ zeros f (length d)))
      ∙ sym (remainder-over l d (rest ++ zeros f (length more)) (more ++ zeros f (length d)) level)
      ∙ ap (λ w. remainder_of f w (f.one ∷ d)) added
    where
      rest : List E
      rest = remainder_of f (fed (length d) start message) (f.one ∷ d)

      long : length rest ≡ length d
      long = length-remainder l d (fed (length d) start message)

      level : length (rest ++ zeros f (length more)) ≡ length (more ++ zeros f (length d))
      level =
          length_before rest (length more) ∙ ap (λ (k : ℕ). k + length more) long
          ∙ sym (length_before more (length d) ∙ add_comm (length more) (length d))

      apart : zeros f (length d) ≡ zeros f (length d - length more) ++ zeros f (length more)
      apart = sym (zeros-add (length d - length more) (length more) ∙ ap (zeros f) (omega arith))

      added : over f (rest ++ zeros f (length more)) (more ++ zeros f (length d)) ≡ over f rest more ++ zeros f (length more)
      added =
          ap (λ z. over f (rest ++ zeros f (length more)) z)
          (ap (λ z. more ++ z) apart ∙ sym (append_assoc more (zeros f (length d - length more)) (zeros f (length more))))
          ∙ over-append l rest (more ++ zeros f (length d - length more)) (zeros f (length more)) (zeros f (length more))
          (long ∙ sym (length_before more (length d - length more) ∙ omega arith))
          ∙ ap₂ ◌++◌ (over-padded rest more (length d - length more) (omega (arith, long))) (zeros-over-zeros (length more))
