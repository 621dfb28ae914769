-- Where a receiver stands in a stretch of good reception: what each rule does there, and what the event answers.
use Rattle.std.proofs.Common.{◌≡◌, ℕ, ◌+◌, ◌-◌, ◌*◌, ◌<◌, ◌≤◌, ◌⊎◌, true, cond, List, [], ◌∷◌, ◌++◌, length, Ok, sym, refl, subst, inl, inr, add-zero, length-append, arith}
use Rattle.std.proofs.lemmas.Bool.{cases_lt, false≢true}
use Rattle.std.specs.List.{concat}
use Rattle.gf.specs.declared.refusal.Refusal.{Refusal}
use Rattle.reception.specs.declared.mode.Mode.{Mode}
use Rattle.reception.specs.declared.mode.Mode.TheVariants.{Hunting, Locked}
use Rattle.reception.specs.declared.answers.Delivery.{Delivery}
use Rattle.reception.specs.declared.answers.Pulled.TheVariants.{Delivered}
use Rattle.reception.specs.Receptions.{Reception, Event, pulled}
use Rattle.reception.specs.Blocks.{Delivers, Misread, IsLegible, IsCleanAndLegible, SuperFrame, Carries}
use Rattle.reception.specs.Rules.{Ready, InFront, with_frame, Fifth, received, Rule, pull_refused, gathers, finds, passes_by, follows, misses_one, loses_lock, restarts, sets_patience}
use Rattle.reception.specs.Runs.{takes, disturbs}
use Rattle.reception.specs.Recovery.{At, five_at, Stretch, FifthOf, AsWritten, Keeps}
use Rattle.reception.proofs.Lists.{four_left, at_exists}
use Rattle.reception.proofs.Carrying.{as_written, not_missed, clean_and_legible, legible, clean}
use Rattle.reception.proofs.NotRefused.{admitted}

-- Five frames in a row, of all that are taken, whose last is the stretch's frame n.
pub record Five (line old new : List (List ℕ)) (n : ℕ) (five : List (List ℕ)) : Type 0 where
  pub older : List (List ℕ)
  pub newer : List (List ℕ)
  pub all_is : old ++ new ≡ older ++ (five ++ newer)
  pub long : length five ≡ 5
  pub last : length (older ++ five) ≡ length old + (n + 1)
  pub own : (i : ℕ) → FifthOf i n → concat five ≡ five_at line i

-- With n frames of the stretch taken, it is locked to the stretch's own boundaries.
pub record Aligned (n held : ℕ) : Type 0 where
  pub whole : ℕ
  pub counts : n ≡ 5 * whole + held

-- `Strays` says whether it may be locked to others.
module _ (Strays : Type 0) where
  -- It is locked to others: at the cut it held `shift` frames, and it has missed `lost` blocks since.
  pub record Astray (n held misses patience : ℕ) : Type 0 where
    pub strays : Strays
    pub shift : ℕ
    pub lost : ℕ
    pub counts : n + shift ≡ 5 * lost + held
    pub some : 1 ≤ shift
    pub few : shift ≤ 4
    pub missed : lost ≤ misses
    pub patient : (lost ≡ 0) ⊎ (misses < patience)

  -- Hunting, it holds four frames, or all those that were taken of the stretch; and if it never strays, the first super frame is not over.
  abbrev pub Place : ℕ → Mode → ℕ → ℕ → ℕ → Type 0
  Place n Hunting held misses patience = ((held ≡ 4) ⊎ (n ≤ held)) × (Strays ⊎ (n ≤ 4))
  Place n Locked held misses patience = Aligned n held ⊎ Astray n held misses patience

  abbrev pub Placed : ℕ → Reception → Type 0
  Placed n r = Place n r.mode (length r.held) r.misses r.patience

  -- one more frame is held
  one_more : (n : ℕ) (mode : Mode) (held misses patience more : ℕ) → Place n mode held misses patience → held < 4 → more ≡ held + 1
      → Place (n + 1) mode more misses patience
  one_more n Hunting held misses patience more (inl four, first) less is = absurd (omega arith)
  one_more n Hunting held misses patience more (inr all, first) less is = (inr (omega arith), inr (omega arith))
  one_more n Locked held misses patience more (inl a) less is = inl (record { whole = a.whole; counts = omega arith })
  one_more n Locked held misses patience more (inr a) less is = inr (record {
    strays = a.strays;
    shift = a.shift;
    lost = a.lost;
    counts = omega arith;
    some = a.some;
    few = a.few;
    missed = a.missed;
    patient = a.patient;
  })

  -- with fewer than five, no super frame ends here that must not be lost
  not_yet : (n : ℕ) (mode : Mode) (held misses patience number i : ℕ) → (Strays → number ≡ patience) → Place n mode held misses patience → held < 4
      → FifthOf i n → number ≤ i + 1 → ⊥
  not_yet n Hunting held misses patience number i same (inl four, first) less f enough = omega arith
  not_yet n Hunting held misses patience number i same (inr all, first) less f enough = omega arith
  not_yet n Locked held misses patience number i same (inl a) less f enough = omega arith
  not_yet n Locked held misses patience number i same (inr a) less f enough = omega (arith, same a.strays)

  -- where none of the stretch is taken, the patience may change
  patience_changed : (n : ℕ) (mode : Mode) (held misses patience other : ℕ) → n ≡ 0 → Place n mode held misses patience
      → Place n mode held misses other
  patience_changed n Hunting held misses patience other none place = place
  patience_changed n Locked held misses patience other none (inl a) = inl a
  patience_changed n Locked held misses patience other none (inr a) = inr (record {
    strays = a.strays;
    shift = a.shift;
    lost = a.lost;
    counts = a.counts;
    some = a.some;
    few = a.few;
    missed = a.missed;
    patient = inl (omega arith);
  })

  module _ (line old new : List (List ℕ)) (sent : List SuperFrame) where
    -- what is known where an event happens with n frames of the stretch taken
    pub record Here (number : ℕ) (r : Reception) (e : Event) (n : ℕ) : Type 0 where
      pub stretch : Stretch r.size line sent
      pub inside : n < 5 * length sent
      pub few : length r.held ≤ 4
      pub place : Placed n r
      -- so many super frames, less one, may be lost
      pub same : Strays → number ≡ r.patience
      -- if it takes a fifth frame, that is the stretch's frame n
      pub sees : (frame : List ℕ) → InFront r frame → takes e ≡ true → Fifth r → Five line old new n (with_frame r frame)
      -- and if it delivers those five, a super frame of the stretch ends there
      pub boundary : (frame : List ℕ) → Fifth r → Five line old new n (with_frame r frame) → IsLegible r.size (received r frame)
          → (r.mode ≡ Locked) ⊎ ((r.mode ≡ Hunting) × IsCleanAndLegible r.size (received r frame)) → (i : ℕ) × FifthOf i n

    module _ {number n : ℕ} {r : Reception} {e : Event} (h : Here number r e n) where
      -- the super frame that ends here
      ended : (i : ℕ) → FifthOf i n → (written : SuperFrame) × At sent i written
      ended i f = at_exists sent i (omega (arith, h.inside))

      carried : {five : List (List ℕ)} {i : ℕ} {written : SuperFrame} → Five line old new n five → At sent i written → FifthOf i n
          → Carries r.size (concat five) written
      carried {five} {i} {written} seen at f = subst (λ b. Carries r.size b written) (sym (seen.own i f)) (h.stretch.carried at)

      delivery_keeps : {five : List (List ℕ)} {before block : List ℕ} {d : Delivery} → Five line old new n five → (i : ℕ) × FifthOf i n
          → Delivers r.size (concat five) d block → Keeps r.size (number - 1) line sent n (pulled before (Ok (Delivered d)) block)
      delivery_keeps {five} {before} {block} {d} seen ends delivered = record {
        none_lost = λ i written at f _. it i written at f;
        none_else = λ _ _ _ _. let w = ended ends.0 ends.1 in (ends.0, w.0, w.1, ends.1, it ends.0 w.0 w.1 ends.1);
      }
        where
          it : (i : ℕ) (written : SuperFrame) → At sent i written → FifthOf i n
              → AsWritten r.size (five_at line i) written (pulled before (Ok (Delivered d)) block)
          it i written at f =
              subst (λ b. AsWritten r.size b written (pulled before (Ok (Delivered d)) block)) (seen.own i f)
              (as_written (carried seen at f) delivered)

      no_delivery_keeps : {other : Event} → ((before after : List ℕ) (d : Delivery) → other ≡ pulled before (Ok (Delivered d)) after → ⊥)
          → ((i : ℕ) (written : SuperFrame) → At sent i written → FifthOf i n → number ≤ i + 1 → ⊥) → Keeps r.size (number - 1) line sent n other
      no_delivery_keeps none not_here = record {
        none_lost = λ i written at f q. absurd (not_here i written at f (omega (arith, q)));
        none_else = λ before after d same. absurd (none before after d same);
      }

      -- a delivery ends where a super frame of the stretch does
      found_here : (lent frame : List ℕ) {block : List ℕ} {d : Delivery} → Ready r lent → Fifth r → r.mode ≡ Hunting
          → Five line old new n (with_frame r frame) → Delivers r.size (received r frame) d block → d.repair.rows_left ≡ 0 → (i : ℕ) × FifthOf i n
      found_here lent frame ready five hunting seen delivers none_left =
          h.boundary frame five seen (legible delivers) (inr (hunting, clean (admitted r lent ready).in_range delivers none_left))

      followed_here : (frame : List ℕ) {block : List ℕ} {d : Delivery} → Fifth r → r.mode ≡ Locked → Five line old new n (with_frame r frame)
          → Delivers r.size (received r frame) d block → (i : ℕ) × FifthOf i n
      followed_here frame five locked seen delivers = h.boundary frame five seen (legible delivers) (inl locked)

      locked_again : (i : ℕ) × FifthOf i n → Aligned (n + 1) 0
      locked_again i = record { whole = i.0 + 1; counts = omega (arith, i.1) }

      as_in : (mode : Mode) → r.mode ≡ mode → Place n mode (length r.held) r.misses r.patience
      as_in mode same = subst (λ m. Place n m (length r.held) r.misses r.patience) same h.place

      -- what is missed is no super frame of the stretch
      astray : (frame : List ℕ) {refusal : Refusal} → Five line old new n (with_frame r frame) → Fifth r → r.mode ≡ Locked
          → Misread r.size (received r frame) refusal → Astray n (length r.held) r.misses r.patience
      astray frame {refusal} seen five locked misses = go (as_in Locked locked)
        where
          go : Aligned n (length r.held) ⊎ Astray n (length r.held) r.misses r.patience → Astray n (length r.held) r.misses r.patience
          go (inl a) =
              let f : FifthOf a.whole n = omega (arith, a.counts) in
              absurd (not_missed (carried seen (ended a.whole f).1 f) misses)
          go (inr a) = a

      missed_again : Astray n (length r.held) r.misses r.patience → Fifth r → r.misses + 1 < r.patience → Astray (n + 1) 0 (r.misses + 1) r.patience
      missed_again a five patient = record {
        strays = a.strays;
        shift = a.shift;
        lost = a.lost + 1;
        counts = omega arith;
        some = a.some;
        few = a.few;
        missed = omega arith;
        patient = inr patient;
      }

      still_hunting : (frame : List ℕ) → Five line old new n (with_frame r frame) → r.mode ≡ Hunting
          → (IsCleanAndLegible r.size (received r frame) → ⊥)
          → Strays ⊎ (n + 1 ≤ 4)
      still_hunting frame seen hunting not = go (as_in Hunting hunting).1
        where
          go : Strays ⊎ (n ≤ 4) → Strays ⊎ (n + 1 ≤ 4)
          go (inl s) = inl s
          go (inr few) = elim (cases_lt n 4) [
            | inl less ↦ inr (omega arith)
            | inr last ↦
                let f : FifthOf 0 n = omega arith in
                absurd (not (clean_and_legible (carried seen (ended 0 f).1 f)))
          ]

    pub rule_keeps : {number n : ℕ} {r after : Reception} {e : Event} → Here number r e n → Rule r e after → takes e ≡ true
        → Keeps r.size (number - 1) line sent n e
    rule_keeps h (pull_refused _) t = absurd (false≢true t)
    rule_keeps {number = number} {n = n} h (gathers {r = r} _ _ few) t =
        no_delivery_keeps h (λ before after d same. cc)
        (λ i written at f q. not_yet n r.mode (length r.held) r.misses r.patience number i h.same h.place (omega arith) f q)
    rule_keeps h (finds {buffer = buffer} {frame = frame} ready front five hunting delivers none_left) t =
        let seen = h.sees frame front refl five in
        delivery_keeps h seen (found_here h buffer frame ready five hunting seen delivers none_left) delivers
    rule_keeps h (passes_by {frame = frame} _ front five _ not) t =
        no_delivery_keeps h (λ before after d same. cc)
        (λ i written at f q. not (clean_and_legible (carried h (h.sees frame front refl five) at f)))
    rule_keeps h (follows {frame = frame} _ front five locked delivers) t =
        let seen = h.sees frame front refl five in
        delivery_keeps h seen (followed_here h frame five locked seen delivers) delivers
    rule_keeps h (misses_one {frame = frame} _ front five _ misses _) t =
        no_delivery_keeps h (λ before after d same. cc) (λ i written at f q. not_missed (carried h (h.sees frame front refl five) at f) misses)
    rule_keeps h (loses_lock {frame = frame} _ front five _ misses _) t =
        no_delivery_keeps h (λ before after d same. cc) (λ i written at f q. not_missed (carried h (h.sees frame front refl five) at f) misses)
    rule_keeps h _ t = absurd (false≢true t)

    pub rule_place : {number n : ℕ} {r after : Reception} {e : Event} → Here number r e n → (disturbs e ≡ true → n ≡ 0) → Rule r e after
        → Placed (n + cond (takes e) 1 0) after
    rule_place {n = n} {r = r} h calm (pull_refused _) = subst (λ k. Placed k r) (sym (add-zero n)) h.place
    rule_place {n = n} h calm (gathers {r = r} {frame = frame} _ _ few) =
        one_more n r.mode (length r.held) r.misses r.patience _ h.place (omega arith) (length-append r.held (frame ∷ []))
    rule_place h calm (finds {buffer = buffer} {frame = frame} ready front five hunting delivers none_left) =
        inl (locked_again h (found_here h buffer frame ready five hunting (h.sees frame front refl five) delivers none_left))
    rule_place h calm (passes_by {r = r} {frame = frame} _ front five hunting not) =
        (inl (four_left r.held frame five), still_hunting h frame (h.sees frame front refl five) hunting not)
    rule_place h calm (follows {frame = frame} _ front five locked delivers) =
        inl (locked_again h (followed_here h frame five locked (h.sees frame front refl five) delivers))
    rule_place h calm (misses_one {frame = frame} _ front five locked misses patient) =
        inr (missed_again h (astray h frame (h.sees frame front refl five) five locked misses) five patient)
    rule_place h calm (loses_lock {r = r} {frame = frame} _ front five locked misses _) =
        (inl (four_left r.held frame five), inl (astray h frame (h.sees frame front refl five) five locked misses).strays)
    rule_place h calm restarts = (inr (omega (arith, calm refl)), inr (omega (arith, calm refl)))
    rule_place {n = n} h calm (sets_patience {r = r} {number = number} _) =
        subst (λ k. Placed k (record r { patience = number })) (sym (add-zero n))
        (patience_changed n r.mode (length r.held) r.misses r.patience number (calm refl) h.place)
    rule_place {n = n} {r = r} {after = after} h calm _ = subst (λ k. Placed k after) (sym (add-zero n)) h.place
