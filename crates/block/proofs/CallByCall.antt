-- The calls of a writer, one after another: with units that fill the super frame they make the super frame of these.
use Rattle.std.proofs.Common.{◌≡◌, ℕ, suc, ◌+◌, ◌-◌, ◌*◌, ◌<◌, ◌≤◌, Bool, cond, not, eqb, List, [], ◌∷◌, ◌++◌, length, get_or, take, drop, Some, None, Ok, Err, Option, Result, sym, refl, ap, ◌∙◌, subst, ap₂, below_more, eq-eqb, arith, length-append, length-take-le, length-drop}
use Rattle.std.proofs.lemmas.List.{get_or_append_left, get_or-append_right}
use Rattle.std.proofs.lemmas.List.FromFn.{fill_by_all}
use Rattle.gf.specs.declared.refusal.Refusal.{Refusal}
use Rattle.gf.specs.declared.refusal.Refusal.TheVariants.{Buffer, Unfinished}
use Rattle.gf.specs.Refusals.{first_refusal}
use Rattle.block.specs.declared.settings.Settings.{Settings}
use Rattle.block.specs.declared.writer.OpenWriter.{OpenWriter}
use Rattle.block.specs.declared.writer.SealedWriter.{SealedWriter}
use Rattle.block.specs.Headers.{of_buffer}
use Rattle.block.specs.SuperFrames.{layout_for, superframe, Fill}
use Rattle.block.specs.Places.{unit_in, units_in}
use Rattle.block.specs.Writing.{Begins, add_complaints, Adds, AddsAll, Seals}
use Rattle.block.specs.Laws.{CallsMake, SealingWhatWasAdded}
use Rattle.block.proofs.Copying.{part_written, part_before}
use Rattle.block.proofs.OpeningSealed.{opening_what_was_sealed}
use Rattle.block.proofs.Placing.{start-le_end, start-le_start}
use Rattle.block.proofs.PlacingAll.{PlacedTo, placed_none, placed_more, one_more, refused_at}
use Rattle.block.proofs.UnitsFit.{first_refusal-making_complaints}

pub no_refusal : (refusal : Refusal) → ◌≡◌ {A = Option Refusal} None (Some refusal) → ⊥
no_refusal refusal e = let z : ◌≡◌ {A = ℕ} 0 1 = cc in omega arith

module _ (s : Settings) (units : List (List ℕ)) (few : length units ≤ (layout_for s).units) where
  abbrev unit : ℕ → List ℕ
  unit n = get_or units n []

  -- the first units are in the writer and in the buffer
  pub record AddedTo (done : ℕ) (w : OpenWriter) (block : List ℕ) : Type 0 where
    pub placed : PlacedTo s units done w
    pub sized : length block ≡ 120 * s.size
    pub held : (n : ℕ) → n < done → unit_in w.starts block n ≡ unit n

  -- a buffer of the right length is not refused
  buffer_right : (w : OpenWriter) (block : List ℕ) (others : List (Bool × Refusal)) → w.settings ≡ s → length block ≡ 120 * s.size
      → first_refusal others ≡ first_refusal (of_buffer w.settings.size block others)
  buffer_right w block others same sized =
      ap (λ b. cond (not b) (Some Buffer) (first_refusal others))
      (sym (eq-eqb (length block) (120 * w.settings.size) (sized ∙ ap (λ (t : Settings). 120 * t.size) (sym same))))

  added_none : (w : OpenWriter) (block : List ℕ) → Begins s w → length block ≡ 120 * s.size → AddedTo 0 w block
  added_none w block b sized = record {
    placed = placed_none s units w b.settings b.empty;
    sized = sized;
    held = λ n h. absurd (omega arith);
  }

  added_more : (done : ℕ) (w next : OpenWriter) (before after : List ℕ) → done < length units → AddedTo done w before
      → Adds w next (unit done) before after (Ok tt) → AddedTo (done + 1) next after
  added_more done w next before after h a add = record {
    placed = placed;
    sized =
        ap length add.1.1
        ∙ length-append (take at before) (unit done ++ rest)
        ∙ omega (arith, length-append (unit done) rest, length-take-le at before within, length-drop (at + length (unit done)) before, room, a.sized);
    held =
        below_more (λ n. unit_in next.starts after n ≡ unit n) done
        (λ n b.
        ap₂ (λ (low high : ℕ). take (high - 2 - low) (drop low after)) (now.1 n (omega arith)) (now.1 (n + 1) (omega arith))
        ∙ ap (λ bytes. take (get_or w.starts (n + 1) 0 - 2 - get_or w.starts n 0) (drop (get_or w.starts n 0) bytes)) add.1.1
        ∙ part_before at before (unit done) rest within (get_or w.starts n 0) (get_or w.starts (n + 1) 0 - 2)
        (omega (arith, w.placed.apart n (omega (arith, a.placed.added))))
        (omega (arith, start-le_start w.settings w.starts w.added w.placed (n + 1) w.added (omega (arith, a.placed.added)) (omega arith)))
        ∙ a.held n b)
        (ap₂ (λ (low high : ℕ). take (high - 2 - low) (drop low after)) (now.1 done (omega arith) ∙ sym here) now.0
        ∙ ap (λ bytes. take (get_or w.starts done 0 + length (unit done) + 2 - 2 - at) (drop at bytes)) add.1.1
        ∙ part_written at before (unit done) rest within (get_or w.starts done 0 + length (unit done) + 2 - 2 - at) (omega (arith, here)));
  }
    where
      placed : PlacedTo s units (done + 1) next
      placed = placed_more s units done w next h few a.placed (buffer_right w before (add_complaints w (length (unit done))) a.placed.settings a.sized ∙ add.0) add.1.0

      now : (get_or next.starts (done + 1) 0 ≡ get_or w.starts done 0 + length (unit done) + 2)
          × ((n : ℕ) → n ≤ done → get_or next.starts n 0 ≡ get_or w.starts n 0)
      now = one_more s units done w next (omega arith) a.placed add.1.0

      -- where the unit is copied to
      at : ℕ
      at = get_or w.starts w.added 0

      here : at ≡ get_or w.starts done 0
      here = ap (λ (n : ℕ). get_or w.starts n 0) a.placed.added

      rest : List ℕ
      rest = drop (at + length (unit done)) before

      room : at + length (unit done) + 2 ≤ length before
      room =
          omega (
            arith,
            start-le_end next.settings next.starts next.added next.placed (done + 1) (omega (arith, placed.added)),
            ap (λ (t : Settings). t.size) placed.settings,
            now.0,
            here,
            a.sized,
          )

      within : at ≤ length before
      within = omega (arith, room)

  -- a run of calls adds its units
  added_all : (rest : List (List ℕ)) (done : ℕ) (w : OpenWriter) (block : List ℕ) (after : OpenWriter) (held : List ℕ)
      → done + length rest ≤ length units → ((n : ℕ) → n < length rest → get_or rest n [] ≡ unit (done + n))
      → AddedTo done w block → AddsAll w block rest after held → AddedTo (done + length rest) after held
  added_all [] done w block after held h same a r =
      subst (λ (n : ℕ). AddedTo n after held) (let e : done ≡ done + 0 = omega arith in e)
      (subst (λ x. AddedTo done x held) (sym r.0) (subst (AddedTo done w) (sym r.1) a))
  added_all (u ∷ rest) done w block after held h same a r =
      subst (λ (n : ℕ). AddedTo n after held) (let e : done + 1 + length rest ≡ done + suc (length rest) = omega arith in e)
      (added_all rest (done + 1) r.0 r.1 after held (omega arith)
      (λ n k. same (suc n) (omega arith) ∙ ap unit (let e : done + suc n ≡ done + 1 + n = omega arith in e))
      (added_more done w r.0 block r.1 (omega arith) a
      (subst (λ v. Adds w r.0 v block r.1 (Ok tt)) (same 0 (omega arith) ∙ ap unit (let e : done + 0 ≡ done = omega arith in e)) r.2)) r.3)

  -- the units are those that the buffer holds
  units_held : (w : OpenWriter) (block : List ℕ) → AddedTo (length units) w block → units_in w.starts w.added block ≡ units
  units_held w block a =
      sym (fill_by_all (unit_in w.starts block) units w.added [] (sym a.placed.added) (λ n h. sym (a.held n (omega (arith, a.placed.added)))))

  module _ (f : Fill s units) where
    next_accepted : (done : ℕ) (w after : OpenWriter) (before written : List ℕ) (answer : Result Unit Refusal) → done < length units
        → AddedTo done w before → Adds w after (unit done) before written answer → answer ≡ Ok tt
    next_accepted done w after before written (Ok u) h a add = refl
    next_accepted done w after before written (Err refusal) h a add =
        absurd (no_refusal refusal (sym (first_refusal-making_complaints s units f)
        ∙ refused_at s units done w refusal h few a.placed (buffer_right w before (add_complaints w (length (unit done))) a.placed.settings a.sized ∙ add.0)))

    all_sealed : (w : OpenWriter) (held after : List ℕ) (answer : Result SealedWriter Refusal) → AddedTo (length units) w held
        → Seals w held after answer → (sealed : SealedWriter) × (answer ≡ Ok sealed) × (after ≡ superframe s units)
    all_sealed w held after (Ok sealed) a m = (sealed, refl, m.1.2 ∙ ap₂ superframe a.placed.settings (units_held w held a))
    all_sealed w held after (Err refusal) a m = absurd (no_refusal refusal (none ∙ m.0))
      where
        whole : w.added ≡ (layout_for w.settings).units
        whole = a.placed.added ∙ f.count ∙ ap (λ t. (layout_for t).units) (sym a.placed.settings)

        none : None ≡ first_refusal (of_buffer w.settings.size held ((not (eqb w.added (layout_for w.settings).units), Unfinished) ∷ []))
        none =
            ap (λ b. cond (not b) (Some Unfinished) None) (sym (eq-eqb w.added (layout_for w.settings).units whole))
            ∙ buffer_right w held ((not (eqb w.added (layout_for w.settings).units), Unfinished) ∷ []) a.placed.settings a.sized

-- a run keeps the settings, and counts its units
pub run_counted : (units : List (List ℕ)) (w : OpenWriter) (block : List ℕ) (after : OpenWriter) (held : List ℕ) → AddsAll w block units after held
    → (after.settings ≡ w.settings) × (after.added ≡ w.added + length units)
run_counted [] w block after held r = (ap (λ x. x.settings) r.0, ap (λ x. x.added) r.0 ∙ omega arith)
run_counted (u ∷ units) w block after held r =
    let n = run_counted units r.0 r.1 after held r.3 in
    (n.0 ∙ r.2.1.0.settings, omega (arith, n.1, r.2.1.0.added))

-- a run with one unit more
pub adds_one_more : (units : List (List ℕ)) (w : OpenWriter) (before : List ℕ) (next : OpenWriter) (held : List ℕ) (unit : List ℕ) (after : OpenWriter) (block : List ℕ)
    → AddsAll w before units next held → Adds next after unit held block (Ok tt) → AddsAll w before (units ++ (unit ∷ [])) after block
adds_one_more [] w before next held unit after block r add =
    (after, block, subst (λ x. Adds x after unit before block (Ok tt)) r.0 (subst (λ b. Adds next after unit b block (Ok tt)) r.1 add), (refl, refl))
adds_one_more (u ∷ units) w before next held unit after block r add =
    (r.0, r.1, r.2, adds_one_more units r.0 r.1 next held unit after block r.3 add)

module _ (s : Settings) (begun : OpenWriter) (buffer : List ℕ) (b : Begins s begun) (sized : length buffer ≡ 120 * s.size) where
  -- after a run from the beginning its units are in
  added_from : (all earlier : List (List ℕ)) (few : length all ≤ (layout_for s).units) (w : OpenWriter) (held : List ℕ)
      → length earlier ≤ length all → ((n : ℕ) → n < length earlier → get_or earlier n [] ≡ get_or all n [])
      → AddsAll begun buffer earlier w held → AddedTo s all few (length earlier) w held
  added_from all earlier few w held h same r =
      subst (λ (n : ℕ). AddedTo s all few n w held) (let e : 0 + length earlier ≡ length earlier = omega arith in e)
      (added_all s all few earlier 0 begun buffer w held (omega arith)
      (λ n k. same n k ∙ ap (λ (i : ℕ). get_or all i []) (let e : n ≡ 0 + n = omega arith in e)) (added_none s all few begun buffer b sized) r)

  all_kept : (units : List (List ℕ)) (w : OpenWriter) (held : List ℕ) → AddsAll begun buffer units w held → units_in w.starts w.added held ≡ units
  all_kept units w held r = units_held s units few w held (added_from units units few w held (omega arith) (λ n h. refl) r)
    where
      few : length units ≤ (layout_for s).units
      few =
          let n = run_counted units begun buffer w held r in
          omega (arith, w.placed.few, n.1, b.empty, ap (λ t. (layout_for t).units) (n.0 ∙ b.settings))

  pub calls_make : (units : List (List ℕ)) → Fill s units → CallsMake units begun buffer (superframe s units)
  calls_make units f = record {
    accepted = accepted;
    kept = all_kept;
    sealed = λ w held r after answer m. all_sealed s units few f w held after answer (added_from units units few w held (omega arith) (λ n h. refl) r) m;
  }
    where
      few : length units ≤ (layout_for s).units
      few = omega (arith, f.count)

      accepted : (earlier : List (List ℕ)) (unit : List ℕ) (later : List (List ℕ)) → units ≡ earlier ++ (unit ∷ later)
          → (w : OpenWriter) (held : List ℕ) → AddsAll begun buffer earlier w held
          → (after : OpenWriter) (written : List ℕ) (answer : Result Unit Refusal) → Adds w after unit held written answer → answer ≡ Ok tt
      accepted earlier u later e w held r after written answer add =
          next_accepted s units few f (length earlier) w after held written answer within
          (added_from units earlier few w held (omega (arith, within))
          (λ n h. sym (ap (λ us. get_or us n []) e ∙ get_or_append_left earlier (u ∷ later) [] n h)) r)
          (subst (λ v. Adds w after v held written answer) next add)
        where
          within : length earlier < length units
          within = omega (arith, ap length e, length-append earlier (u ∷ later))

          next : u ≡ get_or units (length earlier) []
          next =
              sym (ap (λ us. get_or us (length earlier) []) e ∙ get_or-append_right earlier (u ∷ later) (length earlier) (length earlier) [] refl (omega arith)
              ∙ ap (λ (k : ℕ). get_or (u ∷ later) k []) (let z : length earlier - length earlier ≡ 0 = omega arith in z))

pub sealing_what_was_added : SealingWhatWasAdded
sealing_what_was_added s units f begun buffer b sized = (calls_make s begun buffer b sized units f, opening_what_was_sealed s units f)
