-- Sealing a super frame: what the four writes of a whole writer make of a buffer.
use Rattle.std.proofs.Common.{◌≡◌, ℕ, ◌+◌, ◌-◌, ◌*◌, ◌<◌, ◌≤◌, List, [], ◌∷◌, ◌++◌, length, get_or, take, drop, sym, ap, ◌∙◌, ap₂, append_assoc, ⊎_elim, subst, arith, length-append, length-take-le, length-drop, take_at, drop_at, drop-drop}
use Rattle.std.proofs.lemmas.Bool.{cases_lt}
use Rattle.std.proofs.lemmas.List.{get_or_past, get_or-take, take-append-le, drop-take}
use Rattle.std.proofs.lemmas.List.Elements.{All-from_get_or}
use Rattle.std.proofs.lemmas.List.FromFn.{length-map-range_with_len, get_or-map-range_with_len, fill_by_all}
use Rattle.interleaver.specs.Rows.{ChecksFilled, AreBytes}
use Rattle.block.specs.declared.writer.OpenWriter.{OpenWriter}
use Rattle.block.specs.Checks.{fire_word}
use Rattle.block.specs.steps.Reading.{Fits}
use Rattle.block.specs.SuperFrames.{parameter_byte, two_bytes, checked_units, unit_starts, digits, packed, layout_for, behind_fire, super_frame_data, all_row_checks, superframe, Fill}
use Rattle.block.specs.Places.{unit_in, units_in}
use Rattle.block.specs.steps.Writing.{WholeAndSized, with_header, with_unit_checks}
use Rattle.block.proofs.Starts.{layout_fits}
use Rattle.block.proofs.HeaderParts.{header_bytes, length-header_bytes, length-super_frame_data}
use Rattle.block.proofs.Placing.{start-le_end, header-le_start}
use Rattle.block.proofs.UnitStarts.{length-unit_of, unit_starts-found}
use Rattle.block.proofs.UnitChecks.{length-checked_units_in}
use Rattle.block.proofs.RowChecks.{filled_is}

-- buffers that are the same from one place on are the same from a later one on
drop_later : (a b : List ℕ) (i j : ℕ) → i ≤ j → drop i a ≡ drop i b → drop j a ≡ drop j b
drop_later a b i j le e = onward a ∙ ap (drop (j - i)) e ∙ sym (onward b)
  where
    onward : (c : List ℕ) → drop j c ≡ drop (j - i) (drop i c)
    onward c = ap (λ (k : ℕ). drop k c) (let q : j ≡ i + (j - i) = omega arith in q) ∙ sym (drop-drop (j - i) i c)

-- the buffer with the Fire word in front
abbrev pub with_fire_word : List ℕ → List ℕ
with_fire_word block = two_bytes (fire_word (take 9 (drop 2 block))) ++ drop 2 block

-- a buffer of a writer with all units in
module _ (w : OpenWriter) (b : List ℕ) (k : WholeAndSized w b) where
  -- where the units begin
  abbrev begin : ℕ
  begin = (layout_for w.settings).header_length

  -- where they end
  abbrev end : ℕ
  end = 110 * w.settings.size

  abbrev us : List (List ℕ)
  us = units_in w.starts w.added b

  -- the starts that are packed

  fits : Fits (layout_for w.settings)
  fits = layout_fits w.settings.parameters.dac w.settings.parameters.sbr

  within : get_or w.starts w.added 0 ≤ length b
  within = omega (arith, start-le_end w.settings w.starts w.added w.placed w.added (omega arith), k.sized)

  -- no start is missing, for none is 0
  starts_long : w.added ≤ length w.starts
  starts_long =
      ⊎_elim
      (λ (short : length w.starts < w.added). absurd (omega (
        arith,
        get_or_past w.starts w.added 0 (omega arith),
        header-le_start w.settings w.starts w.added w.placed w.added (omega arith),
        fits.long,
      )))
      (λ (long : w.added ≤ length w.starts). long) (cases_lt (length w.starts) w.added)

  unit_starts-units_in : unit_starts begin us ≡ take w.added w.starts
  unit_starts-units_in =
      ap (λ (p : ℕ). unit_starts p us) (sym w.placed.first)
      ∙ unit_starts-found b w.starts w.added w.placed.apart within w.added 0 (omega arith)
      ∙ sym (fill_by_all (λ n. get_or w.starts n 0) (take w.added w.starts) w.added 0 (length-take-le w.added w.starts starts_long)
      (λ n l. get_or-take w.added w.starts n 0 l))

  drop-unit_starts : drop 1 (unit_starts begin us) ≡ take ((layout_for w.settings).units - 1) (drop 1 w.starts)
  drop-unit_starts =
      ap (drop 1) (unit_starts-units_in ∙ ap (λ (n : ℕ). take n w.starts) many)
      ∙ drop-take 1 ((layout_for w.settings).units - 1) w.starts
    where
      many : w.added ≡ 1 + ((layout_for w.settings).units - 1)
      many = omega (arith, fits.some, k.whole)

  -- the lengths of the parts

  count : length us ≡ (layout_for w.settings).units
  count = length-map-range_with_len (unit_in w.starts b) 0 w.added ∙ k.whole

  length-units_in : begin + length (checked_units us) ≡ end
  length-units_in =
      omega (
        arith,
        length-checked_units_in b w.starts w.added w.placed.apart within w.added (omega arith),
        w.placed.first,
        w.placed.full k.whole,
      )

  -- the units fill the super frame
  pub fill : Fill w.settings us
  fill = record {
    count = count;
    some =
        All-from_get_or (λ unit. 1 ≤ length unit) us []
        (λ n h. let l : n < w.added = omega (arith, length-map-range_with_len (unit_in w.starts b) 0 w.added) in
        subst (λ unit. 1 ≤ length unit) (sym (get_or-map-range_with_len (unit_in w.starts b) 0 w.added n n [] l (omega arith)))
        (omega (arith, length-unit_of b w.starts w.added w.placed.apart within n l, w.placed.apart n l)));
    full = length-units_in;
  }

  length-data : length (super_frame_data w.settings us) ≡ end
  length-data = length-super_frame_data w.settings us count ∙ length-units_in

  length-take : length (take 2 b) ≡ 2
  length-take = length-take-le 2 b (omega (arith, w.settings.in_range, k.sized))

  -- the four writes

  -- two bytes as they were, and the rest of the header
  abbrev front : List ℕ
  front = take 2 b ++ header_bytes w.settings us

  length-front : length front ≡ begin
  length-front = omega (arith, length-append (take 2 b) (header_bytes w.settings us), length-take, length-header_bytes w.settings us count)

  with_header-front : with_header w b ≡ front ++ drop begin b
  with_header-front =
      ap (λ ns. take 2 b ++ (parameter_byte w.settings.parameters ∷ (packed (digits ns) ++ drop begin b))) (sym drop-unit_starts)
      ∙ sym (append_assoc (take 2 b) (header_bytes w.settings us) (drop begin b))

  -- the units are behind the header
  drop-with_header : drop begin (with_header w b) ≡ drop begin b
  drop-with_header = ap (drop begin) with_header-front ∙ drop_at front (drop begin b) begin length-front

  units_in-with_header : units_in w.starts w.added (with_header w b) ≡ us
  units_in-with_header =
      fill_by_all (unit_in w.starts b) (units_in w.starts w.added (with_header w b)) w.added []
      (length-map-range_with_len (unit_in w.starts (with_header w b)) 0 w.added)
      (λ n l. get_or-map-range_with_len (unit_in w.starts (with_header w b)) 0 w.added n n [] l (omega arith)
      ∙ ap (take (get_or w.starts (n + 1) 0 - 2 - get_or w.starts n 0))
      (drop_later (with_header w b) b begin (get_or w.starts n 0)
      (header-le_start w.settings w.starts w.added w.placed n (omega arith)) drop-with_header))

  with_unit_checks-with_header : with_unit_checks w (with_header w b) ≡ front ++ (checked_units us ++ drop end b)
  with_unit_checks-with_header =
      ap₂ (λ bytes units. bytes ++ (checked_units units ++ drop end (with_header w b)))
      (ap (take begin) with_header-front ∙ take_at front (drop begin b) begin length-front) units_in-with_header
      ∙ ap (λ bytes. front ++ (checked_units us ++ bytes))
      (drop_later (with_header w b) b begin end (omega (arith, length-units_in)) drop-with_header)

  drop-with_unit_checks : drop 2 (with_unit_checks w (with_header w b)) ≡ behind_fire w.settings us ++ drop end b
  drop-with_unit_checks =
      ap (drop 2)
      (with_unit_checks-with_header ∙ append_assoc (take 2 b) (header_bytes w.settings us) (checked_units us ++ drop end b))
      ∙ drop_at (take 2 b) (header_bytes w.settings us ++ (checked_units us ++ drop end b)) 2 length-take
      ∙ sym (append_assoc (header_bytes w.settings us) (checked_units us) (drop end b))

  with_fire_word-with_unit_checks : with_fire_word (with_unit_checks w (with_header w b)) ≡ super_frame_data w.settings us ++ drop end b
  with_fire_word-with_unit_checks =
      ap (λ bytes. two_bytes (fire_word (take 9 bytes)) ++ bytes) drop-with_unit_checks
      ∙ ap (λ bytes. two_bytes (fire_word bytes) ++ (behind_fire w.settings us ++ drop end b))
      (take-append-le 9 (behind_fire w.settings us) (drop end b) (omega (arith, length-data, w.settings.in_range)))

  -- with the checks of the rows filled, the buffer is the super frame
  pub sealed_is : (before after : List ℕ) → before ≡ with_fire_word (with_unit_checks w (with_header w b)) → AreBytes after
      → ChecksFilled w.settings.size 120 10 before after → after ≡ superframe w.settings us
  unfolding superframe
  sealed_is before after written bytes filled =
      filled_is w.settings.size before after w.settings.in_range.0 long bytes filled
      ∙ ap (λ frame. frame ++ all_row_checks w.settings.size frame)
      (ap (take end) made ∙ take_at (super_frame_data w.settings us) (drop end b) end length-data)
    where
      made : before ≡ super_frame_data w.settings us ++ drop end b
      made = written ∙ with_fire_word-with_unit_checks

      long : length before ≡ 120 * w.settings.size
      long =
          ap length made ∙ length-append (super_frame_data w.settings us) (drop end b)
          ∙ omega (arith, length-data, length-drop end b, k.sized)
