-- Opening what was sealed: a super frame of units of bytes is bytes, and reads as the settings and units that it was made of.
use Rattle.std.proofs.Common.{◌≡◌, ℕ, zero, suc, ◌+◌, ◌-◌, ◌*◌, ◌/◌, ◌%◌, ◌<◌, ◌≤◌, Bool, true, false, not, ◌||◌, eqb, List, [], ◌∷◌, ◌++◌, length, get_or, take, drop, All, None, Ok, sym, refl, ap, ◌∙◌, subst, ap₂, ⊎_elim, append_assoc, add-zero, arith, length-append, length-drop, take-append-drop, drop_at, drop-drop, eq-eqb, eqb-true}
use Rattle.std.proofs.lemmas.Bool.{cases_lt}
use Rattle.std.proofs.lemmas.List.{take-append-le, drop-append-le, take_all, get_or_past, get_or-drop, get_or-take}
use Rattle.std.proofs.lemmas.List.FromFn.{fill_by_all}
use Rattle.interleaver.specs.Rows.{BlockRepaired, AreBytes, AllCodewords}
use Rattle.interleaver.proofs.Repairing.{repaired_once}
use Rattle.block.specs.declared.header.Header.{Header}
use Rattle.block.specs.declared.parameters.Layout.{Layout}
use Rattle.block.specs.declared.settings.Settings.{Settings}
use Rattle.block.specs.Bytes.{unsigned, word}
use Rattle.block.specs.Checks.{fire_word, unit_check}
use Rattle.block.specs.Layouts.{layout, parameters, right}
use Rattle.block.specs.Headers.{start, starts, crowded, fire_fits, fills, written, header, check_fits}
use Rattle.block.specs.SuperFrames.{two_bytes, checked_units, unit_starts, digits, packed, parameter_byte, layout_for, behind_fire, super_frame_data, all_row_checks, superframe, Fill}
use Rattle.block.specs.Places.{unit_in, units_in}
use Rattle.block.specs.Laws.{untouched, Says, ReadsAs, OpeningWhatWasSealed}
use Rattle.block.specs.steps.Reading.{Fits}
use Rattle.block.proofs.HeaderParts.{length-super_frame_data, length-header, aligned-odd, crowded-none, start_packed, Right, header-right}
use Rattle.block.proofs.PackedStarts.{length-packed, packed_lt, unsigned-packed, unsigned-packed_odd}
use Rattle.block.proofs.ParameterBytes.{parameters-parameter_byte, right-parameter_byte, parameter_byte_lt}
use Rattle.block.proofs.RowChecks.{all_codewords, length-all_row_checks, bytes-all_row_checks}
use Rattle.block.proofs.Starts.{layout_fits, start_at, start_last}
use Rattle.block.proofs.SuperFrameBytes.{bytes-cons, bytes-append, bytes-checked_units}
use Rattle.block.proofs.UnitStarts.{two_bytes_lt, fire_word_lt, length-unit_starts, get_or-unit_starts, length-checked_units_more, length-checked_units_append, unit_found, check_found, word-two_bytes}
use Rattle.block.proofs.Untouched.{repaired-untouched}

-- bytes within the first of two lists
taken-left : (xs ys : List ℕ) (k m : ℕ) → k + m ≤ length xs → take m (drop k (xs ++ ys)) ≡ take m (drop k xs)
taken-left xs ys k m h =
    ap (take m) (drop-append-le k xs ys (omega arith)) ∙ take-append-le m (drop k xs) ys (omega (arith, length-drop k xs))

word-found : (b : List ℕ) (k w : ℕ) → take 2 (drop k b) ≡ two_bytes w → word b k ≡ w
word-found b k w e =
    ap₂ (λ (m n : ℕ). m * 256 + n) (ap (λ (i : ℕ). get_or b i 0) (sym (add-zero k)) ∙ at 0 (omega arith)) (at 1 (omega arith)) ∙ word-two_bytes w []
  where
    at : (i : ℕ) → i < 2 → get_or b (k + i) 0 ≡ get_or (two_bytes w) i 0
    at i h = sym (get_or-drop k b i 0) ∙ sym (get_or-take 2 (drop k b) i 0 h) ∙ ap (λ bs. get_or bs i 0) e

module _ (s : Settings) (units : List (List ℕ)) (f : Fill s units) where
  abbrev l : Layout
  l = layout_for s

  fits : Fits l
  fits = layout_fits s.parameters.dac s.parameters.sbr

  -- where unit n begins, and where the last one ends

  abbrev place : ℕ → ℕ
  place n = l.header_length + length (checked_units (take n units))

  place-more : (n : ℕ) → n < l.units → place (n + 1) ≡ place n + length (get_or units n []) + 2
  place-more n h = omega (arith, length-checked_units_more units n (omega (arith, f.count)))

  place-last : place l.units ≡ 110 * s.size
  place-last =
      ap (λ us. l.header_length + length (checked_units us)) (take_all l.units units (omega (arith, f.count))) ∙ f.full

  place_le : (n : ℕ) → place n ≤ 110 * s.size
  place_le n =
      omega (arith, f.full, length-checked_units_append (take n units) (drop n units), ap (λ us. length (checked_units us)) (take-append-drop n units))

  -- the starts that are packed

  abbrev others : List ℕ
  others = drop 1 (unit_starts l.header_length units)

  length-others : length others ≡ l.units - 1
  length-others = omega (arith, length-drop 1 (unit_starts l.header_length units), length-unit_starts l.header_length units, f.count)

  get_or-others : (n : ℕ) → n + 1 < l.units → get_or others n 0 ≡ place (n + 1)
  get_or-others n h =
      get_or-drop 1 (unit_starts l.header_length units) n 0
      ∙ ap (λ (i : ℕ). get_or (unit_starts l.header_length units) i 0) (omega arith)
      ∙ get_or-unit_starts l.header_length units (n + 1) (omega (arith, f.count))

  others_lt : (n : ℕ) → get_or others n 0 < 4096
  others_lt n =
      ⊎_elim (λ (h : n + 1 < l.units). omega (arith, get_or-others n h, place_le (n + 1), s.in_range))
      (λ (h : l.units ≤ n + 1). omega (arith, get_or_past others n 0 (omega (arith, length-others)))) (cases_lt (n + 1) l.units)

  length-packed-others : 3 + length (packed (digits others)) ≡ l.header_length
  length-packed-others =
      ap (λ (k : ℕ). 3 + k) (length-packed others ∙ ap (λ (k : ℕ). (3 * k + 1) / 2) length-others) ∙ length-header s.parameters.dac s.parameters.sbr

  -- a block that holds them behind three bytes
  module _ (x y p : ℕ) (behind : List ℕ) where
    abbrev packs : List ℕ
    packs = packed (digits others) ++ (checked_units units ++ behind)

    abbrev block : List ℕ
    block = x ∷ y ∷ p ∷ packs

    abbrev places : List ℕ
    places = starts l s.size packs

    get_or-places : (n : ℕ) → n ≤ l.units → get_or places n 0 ≡ place n
    get_or-places zero h = start_at l s.size packs 0 (omega arith) ∙ sym (add-zero l.header_length)
    get_or-places (suc n) h =
        start_at l s.size packs (suc n) (omega (arith, fits.few))
        ∙ ⊎_elim between
        (λ (k : l.units ≤ suc n). let last : suc n ≡ l.units = omega arith in
        start_last l s.size packs (suc n) (omega arith) last ∙ sym (ap place last ∙ place-last)) (cases_lt (suc n) l.units)
      where
        between : suc n < l.units → start l s.size packs (suc n) ≡ place (suc n)
        between k =
            start_packed l s.size packs (suc n) (omega arith) k
            ∙ ap (λ (i : ℕ). unsigned packs (12 * i) 12) less
            ∙ unsigned-packed others (checked_units units ++ behind) others_lt n (omega (arith, length-others))
            ∙ get_or-others n (omega arith) ∙ ap place more
          where
            less : suc n - 1 ≡ n
            less = omega arith

            more : n + 1 ≡ suc n
            more = omega arith

    apart : (n : ℕ) → n < l.units → get_or places n 0 + 3 ≤ get_or places (n + 1) 0
    apart n h =
        omega (arith, get_or-places n (omega arith), get_or-places (n + 1) (omega arith), place-more n h, f.some n [] (omega (arith, f.count)))

    uncrowded : crowded places 1 l.units ≡ None
    uncrowded = crowded-none places 1 l.units (λ k low high. there k low (apart (k - 1) (omega arith)))
      where
        there : (k : ℕ) → 1 ≤ k → get_or places (k - 1) 0 + 3 ≤ get_or places (k - 1 + 1) 0 → get_or places (k - 1) 0 + 3 ≤ get_or places k 0
        there k low = subst (λ (i : ℕ). get_or places (k - 1) 0 + 3 ≤ get_or places i 0) (omega arith)

    filled : fills l packs ≡ true
    filled = by l.aligned (aligned-odd s.parameters.dac s.parameters.sbr)
      where
        by : (a : Bool) → a ≡ eqb ((l.units - 1) % 2) 1 → (not a || eqb (unsigned packs (12 * (l.units - 1)) 4) 0) ≡ true
        by false e = refl
        by true e =
            eq-eqb _ 0
            (ap (λ (i : ℕ). unsigned packs (12 * i) 4) (sym length-others)
            ∙ unsigned-packed_odd others (checked_units units ++ behind) (ap (λ (i : ℕ). i % 2) length-others ∙ eqb-true _ 1 (sym e)))

    -- the units in the block

    drop-place : (n : ℕ) → drop (place n) block ≡ drop (length (checked_units (take n units))) (checked_units units ++ behind)
    drop-place n =
        sym (drop-drop (length (checked_units (take n units))) l.header_length block)
        ∙ ap (drop (length (checked_units (take n units))))
        (drop_at (x ∷ y ∷ p ∷ packed (digits others)) (checked_units units ++ behind) l.header_length (omega (arith, length-packed-others)))

    -- up to the end of its check a unit is within the units
    inside : (n : ℕ) → n < l.units → length (checked_units (take n units)) + length (get_or units n []) + 2 ≤ length (checked_units units)
    inside n h = omega (arith, place-more n h, place_le (n + 1), f.full)

    unit_in-places : (n : ℕ) → n < l.units → unit_in places block n ≡ get_or units n []
    unit_in-places n h =
        ap₂ (λ (m k : ℕ). take m (drop k block)) long (get_or-places n (omega arith))
        ∙ ap (take (length (get_or units n []))) (drop-place n)
        ∙ taken-left (checked_units units) behind (length (checked_units (take n units))) (length (get_or units n [])) (omega (arith, inside n h))
        ∙ unit_found units n (omega (arith, f.count))
      where
        long : get_or places (n + 1) 0 - 2 - get_or places n 0 ≡ length (get_or units n [])
        long = omega (arith, get_or-places n (omega arith), get_or-places (n + 1) (omega arith), place-more n h)

    units_in-places : units_in places l.units block ≡ units
    units_in-places = sym (fill_by_all (unit_in places block) units l.units [] f.count (λ n h. sym (unit_in-places n h)))

    word-places : (n : ℕ) → n < l.units → word block (get_or places (n + 1) 0 - 2) ≡ unit_check (get_or units n [])
    word-places n h =
        word-found block (get_or places (n + 1) 0 - 2) (unit_check u)
        (ap (λ (k : ℕ). take 2 (drop k block)) there ∙ ap (take 2) (sym (drop-drop (length u) (place n) block) ∙ ap (drop (length u)) (drop-place n)
        ∙ drop-drop (length u) c (checked_units units ++ behind))
        ∙ taken-left (checked_units units) behind (c + length u) 2 (inside n h) ∙ check_found units n (omega (arith, f.count)))
      where
        u : List ℕ
        u = get_or units n []

        c : ℕ
        c = length (checked_units (take n units))

        there : get_or places (n + 1) 0 - 2 ≡ place n + length u
        there = omega (arith, get_or-places (n + 1) (omega arith), place-more n h)

    -- the block is read
    says : parameters p ≡ s.parameters → right p ≡ true → BlockRepaired s.size 120 10 block block untouched → length block ≡ 120 * s.size
        → fire_fits block ≡ true → Says s units block
    says e ok repaired long fire = record {
      repaired = repaired;
      h = said;
      opened = opened;
      parameters = refl;
      count = sym f.count;
      held = units_in-places;
      good = good;
    }
      where
        said : Header
        said = record { size = s.size; parameters = s.parameters; starts = places }

        written-block : written s.size block ≡ said
        written-block = ap (λ q. record { size = s.size; parameters = q; starts = starts (layout q.dac q.sbr) s.size packs }) e

        conditions : Right s.size block
        conditions = record {
          in_range = s.in_range;
          long = long;
          fire = fire;
          parameters = ok;
          filled = subst (λ q. fills (layout q.dac q.sbr) packs ≡ true) (sym e) filled;
          apart = subst (λ q. crowded (starts (layout q.dac q.sbr) s.size packs) 1 (layout q.dac q.sbr).units ≡ None) (sym e) uncrowded;
        }

        opened : header s.size block ≡ Ok said
        opened = header-right s.size block conditions ∙ ap Ok written-block

        good : (n : ℕ) → n < l.units → check_fits said block n ≡ true
        good n h = eq-eqb _ _ (ap unit_check (unit_in-places n h) ∙ sym (word-places n h))

  -- the super frame

  abbrev p : ℕ
  p = parameter_byte s.parameters

  abbrev frame : List ℕ
  frame = super_frame_data s units

  abbrev checks : List ℕ
  checks = all_row_checks s.size frame

  -- its Fire word
  abbrev fire : ℕ
  fire = fire_word (take 9 (behind_fire s units))

  length-frame : length frame ≡ 110 * s.size
  length-frame = omega (arith, length-super_frame_data s units f.count, f.full)

  abbrev whole : List ℕ
  whole = block (fire / 256) (fire % 256) p checks

  data-whole : frame ++ checks ≡ whole
  data-whole = ap (λ bs. fire / 256 ∷ fire % 256 ∷ p ∷ bs) (append_assoc (packed (digits others)) (checked_units units) checks)

  superframe-whole : superframe s units ≡ whole
  unfolding superframe
  superframe-whole = data-whole

  length-whole : length whole ≡ 120 * s.size
  length-whole =
      ap length (sym data-whole) ∙ length-append frame checks
      ∙ omega (arith, length-frame, length-all_row_checks s.size frame)

  fire_fits-whole : fire_fits whole ≡ true
  fire_fits-whole =
      eq-eqb _ _ (ap fire_word (ap (take 9) (ap (drop 2) (sym data-whole)) ∙ take-append-le 9 (behind_fire s units) checks long)
      ∙ sym (word-two_bytes fire (p ∷ packs (fire / 256) (fire % 256) p checks)))
    where
      long : 9 ≤ length (behind_fire s units)
      long = omega (arith, length-frame, s.in_range)

  bytes-whole : All AreBytes units → AreBytes whole
  bytes-whole bytes =
      let two = two_bytes_lt fire (fire_word_lt (take 9 (behind_fire s units))) in
      bytes-cons (fire / 256) (fire % 256 ∷ p ∷ held) two.0
      (bytes-cons (fire % 256) (p ∷ held) two.1
      (bytes-cons p held (omega (arith, parameter_byte_lt s.parameters s.right))
      (bytes-append (packed (digits others)) (checked_units units ++ checks) (packed_lt others others_lt)
      (bytes-append (checked_units units) checks (bytes-checked_units units bytes) (bytes-all_row_checks s.size frame)))))
    where
      held : List ℕ
      held = packed (digits others) ++ (checked_units units ++ checks)

  pub superframe-bytes : All AreBytes units → AreBytes (superframe s units)
  superframe-bytes bytes = subst AreBytes (sym superframe-whole) (bytes-whole bytes)

  codewords : AllCodewords s.size 120 10 whole
  codewords = subst (AllCodewords s.size 120 10) data-whole (all_codewords s.size frame length-frame)

  says-whole : Says s units whole
  says-whole =
      says (fire / 256) (fire % 256) p checks (parameters-parameter_byte s.parameters s.right) (right-parameter_byte s.parameters s.right)
      (repaired-untouched s.size 120 10 whole refl codewords) length-whole fire_fits-whole

  reads-whole : AreBytes whole → ReadsAs s units whole
  reads-whole bytes = record {
    bytes = bytes;
    says = says-whole;
    once =
        λ after repair changed rows.
        repaired_once s.size 120 10 refl whole after whole repair untouched (omega (arith, length-whole)) changed bytes rows says-whole.repaired;
    flawless = record {
      legible = record { repaired = whole; repair = untouched; bytes = bytes; rows = says-whole.repaired; right = says-whole.opened };
      codewords = codewords;
      good = says-whole.good;
    };
  }

  pub reads : AreBytes (superframe s units) → ReadsAs s units (superframe s units)
  reads bytes = subst (ReadsAs s units) (sym superframe-whole) (reads-whole (subst AreBytes superframe-whole bytes))

pub opening_what_was_sealed : OpeningWhatWasSealed
opening_what_was_sealed s units f = record {
  says = subst (Says s units) (sym (superframe-whole s units f)) (says-whole s units f);
  bytes = superframe-bytes s units f;
  reads = reads s units f;
}
