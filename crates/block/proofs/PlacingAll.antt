-- Giving units their places, one after another.
use Rattle.std.proofs.Common.{◌≡◌, ℕ, ◌+◌, ◌-◌, ◌*◌, ◌<◌, ◌≤◌, ◌≢◌, Bool, true, false, cond, not, ◌&&◌, ltb, leb, List, [], length, get_or, set, drop, Some, None, Ok, Option, sym, refl, ap, ◌∙◌, ap₂, below_more, le-ltb, get_or-set_same, get_or-set_other, arith}
use Rattle.std.proofs.lemmas.List.{drop_more, drop_all}
use Rattle.std.proofs.lemmas.Bool.{lt-ltb, lt-leb}
use Rattle.gf.specs.declared.refusal.Refusal.{Refusal}
use Rattle.gf.specs.declared.refusal.Refusal.TheVariants.{UnitLength, Overfull, Unfinished}
use Rattle.gf.specs.Refusals.{first_refusal}
use Rattle.block.specs.declared.settings.Settings.{Settings}
use Rattle.block.specs.declared.writer.OpenWriter.{OpenWriter}
use Rattle.block.specs.SuperFrames.{layout_for}
use Rattle.block.specs.Places.{has_room}
use Rattle.block.specs.Writing.{add_complaints, OneMore, all_fit, making_complaints}
use Rattle.block.specs.steps.Writing.{Admits}
use Rattle.block.proofs.Starts.{layout_fits}
use Rattle.block.proofs.UnitsFit.{fill_from}

module _ (s : Settings) (units : List (List ℕ)) where
  abbrev count : ℕ
  count = (layout_for s).units

  abbrev capacity : ℕ
  capacity = 110 * s.size

  abbrev unit : ℕ → List ℕ
  unit n = get_or units n []

  -- the first units have their places, and whether all fit hangs on the others
  pub record PlacedTo (done : ℕ) (w : OpenWriter) : Type 0 where
    pub settings : w.settings ≡ s
    pub added : w.added ≡ done
    pub each : (n : ℕ) → n < done → get_or w.starts (n + 1) 0 ≡ get_or w.starts n 0 + length (unit n) + 2
    pub fit : all_fit capacity (layout_for s).header_length count units ≡ all_fit capacity (get_or w.starts done 0) (count - done) (drop done units)

  pub placed_none : (w : OpenWriter) → w.settings ≡ s → w.added ≡ 0 → PlacedTo 0 w
  placed_none w same none = record {
    settings = same;
    added = none;
    each = λ n h. absurd (omega arith);
    fit =
        ap₂ (λ (start left : ℕ). all_fit capacity start left units) (sym (w.placed.first ∙ ap (λ t. (layout_for t).header_length) same))
        (let e : count ≡ count - 0 = omega arith in e);
  }

  -- the next unit decides
  next_decides : (done start : ℕ) → done < length units → all_fit capacity start (count - done) (drop done units)
      ≡ (has_room capacity start (length (unit done)) (count - done - 1) && all_fit capacity (start + length (unit done) + 2) (count - done - 1) (drop (done + 1) units))
  next_decides done start h = ap (all_fit capacity start (count - done)) (drop_more units done [] h)

  -- the refusals of adding the next unit, where not all are in
  complaints : (done : ℕ) (w : OpenWriter) → done < count → PlacedTo done w
      → first_refusal (add_complaints w (length (unit done)))
      ≡ cond (not (has_room capacity (get_or w.starts done 0) (length (unit done)) (count - done - 1))) (Some UnitLength) None
  complaints done w h p =
      ap₂ (λ t (n : ℕ). cond (leb (layout_for t).units n) (Some Overfull)
      (cond (not (has_room (110 * t.size) (get_or w.starts n 0) (length (unit done)) ((layout_for t).units - n - 1))) (Some UnitLength) None))
      p.settings p.added
      ∙ ap (λ b. cond b (Some Overfull)
      (cond (not (has_room capacity (get_or w.starts done 0) (length (unit done)) (count - done - 1))) (Some UnitLength) None))
      (lt-leb count done h)

  -- the refusals of all units together
  abbrev decided : Bool → Bool → Bool → Option Refusal
  decided many fit few = cond many (Some Overfull) (cond (not fit) (Some UnitLength) (cond few (Some Unfinished) None))

  abbrev fits : Bool
  fits = all_fit capacity (layout_for s).header_length count units

  -- a unit more sets the start behind it, and no other
  pub one_more : (done : ℕ) (w next : OpenWriter) → done < count → PlacedTo done w → OneMore w (length (unit done)) next
      → (get_or next.starts (done + 1) 0 ≡ get_or w.starts done 0 + length (unit done) + 2)
      × ((n : ℕ) → n ≤ done → get_or next.starts n 0 ≡ get_or w.starts n 0)
  one_more done w next h p more = (here, kept)
    where
      starts : next.starts ≡ set w.starts (done + 1) (get_or w.starts done 0 + length (unit done) + 2)
      starts = more.starts ∙ ap (λ (n : ℕ). set w.starts (n + 1) (get_or w.starts n 0 + length (unit done) + 2)) p.added

      within : done + 1 < length w.starts
      within = omega (arith, w.placed.long, (layout_fits s.parameters.dac s.parameters.sbr).few)

      here : get_or next.starts (done + 1) 0 ≡ get_or w.starts done 0 + length (unit done) + 2
      here = ap (λ xs. get_or xs (done + 1) 0) starts ∙ get_or-set_same w.starts (done + 1) (get_or w.starts done 0 + length (unit done) + 2) 0 within

      kept : (n : ℕ) → n ≤ done → get_or next.starts n 0 ≡ get_or w.starts n 0
      kept n b =
          let other : n ≢ done + 1 = λ e. omega arith in
          ap (λ xs. get_or xs n 0) starts ∙ get_or-set_other w.starts (done + 1) n (get_or w.starts done 0 + length (unit done) + 2) 0 other

  pub placed_more : (done : ℕ) (w next : OpenWriter) → done < length units → length units ≤ count → PlacedTo done w
      → first_refusal (add_complaints w (length (unit done))) ≡ None → OneMore w (length (unit done)) next → PlacedTo (done + 1) next
  placed_more done w next h few p ok more = record {
    settings = more.settings ∙ p.settings;
    added = more.added ∙ ap (λ (n : ℕ). n + 1) p.added;
    each = below_more (λ n. get_or next.starts (n + 1) 0 ≡ get_or next.starts n 0 + length (unit n) + 2) done
        (λ n b. now.1 (n + 1) (omega arith) ∙ p.each n b ∙ ap (λ (start : ℕ). start + length (unit n) + 2) (sym (now.1 n (omega arith))))
        (now.0 ∙ ap (λ (start : ℕ). start + length (unit done) + 2) (sym (now.1 done (omega arith))));
    fit =
        p.fit ∙ next_decides done (get_or w.starts done 0) h ∙ ap (λ b. b && all_fit capacity (get_or w.starts done 0 + length (unit done) + 2) (count - done - 1) (drop (done + 1) units)) room
        ∙ ap₂ (λ (start left : ℕ). all_fit capacity start left (drop (done + 1) units)) (sym now.0) (let e : count - done - 1 ≡ count - (done + 1) = omega arith in e);
  }
    where
      now : (get_or next.starts (done + 1) 0 ≡ get_or w.starts done 0 + length (unit done) + 2)
          × ((n : ℕ) → n ≤ done → get_or next.starts n 0 ≡ get_or w.starts n 0)
      now = one_more done w next (omega arith) p more

      room : has_room capacity (get_or w.starts done 0) (length (unit done)) (count - done - 1) ≡ true
      room = by (has_room capacity (get_or w.starts done 0) (length (unit done)) (count - done - 1)) (sym (complaints done w (omega arith) p) ∙ ok)
        where
          by : (b : Bool) → cond (not b) (Some UnitLength) None ≡ None → b ≡ true
          by true e = refl
          by false e = absurd (let z : ◌≡◌ {A = ℕ} 0 1 = cc in omega arith)

  pub refused_at : (done : ℕ) (w : OpenWriter) (refusal : Refusal) → done < length units → length units ≤ count → PlacedTo done w
      → first_refusal (add_complaints w (length (unit done))) ≡ Some refusal → first_refusal (making_complaints s units) ≡ Some refusal
  refused_at done w refusal h few p bad =
      by (has_room capacity (get_or w.starts done 0) (length (unit done)) (count - done - 1)) (p.fit ∙ next_decides done (get_or w.starts done 0) h)
      (sym (complaints done w (omega arith) p) ∙ bad)
    where
      rest : Bool
      rest = all_fit capacity (get_or w.starts done 0 + length (unit done) + 2) (count - done - 1) (drop (done + 1) units)

      by : (b : Bool) → fits ≡ (b && rest) → cond (not b) (Some UnitLength) None ≡ Some refusal → decided (ltb count (length units)) fits (ltb (length units) count) ≡ Some refusal
      by true f e = absurd (let z : ◌≡◌ {A = ℕ} 0 1 = cc in omega arith)
      by false f e = ap₂ (λ many fit. decided many fit (ltb (length units) count)) (le-ltb count (length units) few) f ∙ e

  all_fit-placed : (w : OpenWriter) → PlacedTo (length units) w → fits ≡ true
  all_fit-placed w p = p.fit ∙ ap (all_fit capacity (get_or w.starts (length units) 0) (count - length units)) (drop_all (length units) units (omega arith))

  pub too_few : (w : OpenWriter) → PlacedTo (length units) w → w.added < count → first_refusal (making_complaints s units) ≡ Some Unfinished
  too_few w p less =
      ap₂ (λ many fit. decided many fit (ltb (length units) count)) (le-ltb count (length units) (omega (arith, p.added))) (all_fit-placed w p)
      ∙ ap (decided false true) (lt-ltb (length units) count (omega (arith, p.added)))

  pub placed_all : (w : OpenWriter) → PlacedTo (length units) w → length units ≤ count → count ≤ w.added → Admits s units (Ok tt)
  placed_all w p few all = (none, fill_from s units none)
    where
      none : first_refusal (making_complaints s units) ≡ None
      none =
          ap₂ (λ many fit. decided many fit (ltb (length units) count)) (le-ltb count (length units) few) (all_fit-placed w p)
          ∙ ap (decided false true) (le-ltb (length units) count (omega (arith, p.added)))
