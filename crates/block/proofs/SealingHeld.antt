-- Sealing what a flawless block held: its settings and units make the same block.
use Rattle.std.proofs.Common.{◌≡◌, ℕ, suc, ◌+◌, ◌-◌, ◌*◌, ◌/◌, ◌%◌, ◌<◌, ◌≤◌, Bool, true, false, cond, not, ◌||◌, eqb, List, [], ◌∷◌, ◌++◌, map, length, get_or, take, drop, All, Some, None, Ok, sym, refl, ap, ◌∙◌, subst, ap₂, zero-add, arith, length-take-le, length-drop, eqb-true, eq-eqb, leb, le-leb}
use Rattle.std.proofs.lemmas.Bool.{and_from}
use Rattle.std.proofs.lemmas.List.{take-take, drop_more, get_or-drop}
use Rattle.std.proofs.lemmas.List.Elements.{All-from_get_or}
use Rattle.std.proofs.lemmas.List.FromFn.{length-map-range_with_len, get_or-map-range_with_len, fill_by_all}
use Rattle.std.specs.List.{range_with_len}
use Rattle.gf.specs.declared.refusal.Refusal.TheVariants.{Size}
use Rattle.gf.specs.declared.refusal.Refusal.TheVariants as refusals
use Rattle.gf.specs.laws.FieldLaws.{laws256}
use Rattle.gf.specs.Refusals.{first_refusal}
use Rattle.codes.proofs.TakenOff.{distance-same}
use Rattle.interleaver.specs.Rows.{row_of, elements, AreBytes, AllCodewords, wrong}
use Rattle.interleaver.proofs.Repairing.{few_wrong_corrected}
use Rattle.block.specs.declared.header.Header.{Header}
use Rattle.block.specs.declared.parameters.Layout.{Layout}
use Rattle.block.specs.declared.parameters.Parameters.{Parameters}
use Rattle.block.specs.declared.settings.Settings.{Settings}
use Rattle.block.specs.Bytes.{unsigned, word}
use Rattle.block.specs.Checks.{fire_word, unit_check}
use Rattle.block.specs.Layouts.{layout, parameters}
use Rattle.block.specs.Headers.{starts, layout_of, written, header, unit_count, check_fits, Tiles}
use Rattle.block.specs.SuperFrames.{settings_complaints, two_bytes, checked_units, unit_starts, digits, packed, parameter_byte, all_row_checks, superframe, Fill}
use Rattle.block.specs.Places.{unit_in, units_in}
use Rattle.block.specs.Laws.{Flawless, CallsMake, MakesAgain, SealingWhatWasHeld}
use Rattle.block.specs.steps.Reading.{Fits}
use Rattle.block.proofs.CallByCall.{calls_make}
use Rattle.block.proofs.HeaderParts.{length-header, aligned-odd, start_packed, Right, right_from}
use Rattle.block.proofs.PackedStarts.{numbers, packed-numbers}
use Rattle.block.proofs.ParameterBytes.{parameter_byte-parameters, sendable-parameters}
use Rattle.block.proofs.RowChecks.{codewords_are}
use Rattle.block.proofs.Starts.{layout_fits, start_at}
use Rattle.block.proofs.Tiling.{tiled_answer}
use Rattle.block.proofs.UnitsFit.{first_refusal-making_complaints}
use Rattle.block.proofs.UnitStarts.{two_bytes-word, glued, length-unit_of, unit_starts-found, checked_units-found}

module _ (size : ℕ) (block : List ℕ) (bytes : AreBytes block) (right : Right size block) (codewords : AllCodewords size 120 10 block)
    (tiles : Tiles (written size block))
    (good : (n : ℕ) → n < unit_count (written size block) → check_fits (written size block) block n ≡ true) where
  abbrev byte : ℕ
  byte = get_or block 2 0

  abbrev said : Parameters
  said = parameters byte

  abbrev l : Layout
  l = layout_of block

  abbrev places : List ℕ
  places = starts l size (drop 3 block)

  abbrev units : List (List ℕ)
  units = units_in places l.units block

  fits : Fits l
  fits = layout_fits said.dac said.sbr

  data_within : 110 * size ≤ length block
  data_within = omega (arith, right.long)

  inside : get_or places l.units 0 ≤ length block
  inside = omega (arith, tiles.last, data_within)

  word-places : (n : ℕ) → n < l.units → word block (get_or places (n + 1) 0 - 2) ≡ unit_check (unit_in places block n)
  word-places n h = sym (eqb-true _ _ (good n h))

  -- the units fill a super frame

  length-units : length units ≡ l.units
  length-units = length-map-range_with_len (unit_in places block) 0 l.units

  checked_units-units : checked_units units ≡ take (110 * size - l.header_length) (drop l.header_length block)
  checked_units-units =
      checked_units-found block places l.units tiles.apart inside bytes word-places
      ∙ ap₂ (λ (last first : ℕ). take (last - first) (drop first block)) tiles.last tiles.first

  some : All (λ unit. 1 ≤ length unit) units
  some = All-from_get_or (λ unit. 1 ≤ length unit) units [] each
    where
      each : (n : ℕ) → n < length units → 1 ≤ length (get_or units n [])
      each n h =
          omega (
            arith,
            ap length (get_or-map-range_with_len (unit_in places block) 0 l.units n n [] below (zero-add n)),
            length-unit_of block places l.units tiles.apart inside n below,
            tiles.apart n below,
          )
        where
          below : n < l.units
          below = omega (arith, length-units)

  full : l.header_length + length (checked_units units) ≡ 110 * size
  full =
      omega (arith, ap length checked_units-units, length-take-le (110 * size - l.header_length) (drop l.header_length block) enough, fits.short, right.in_range)
    where
      enough : 110 * size - l.header_length ≤ length (drop l.header_length block)
      enough = omega (arith, length-drop l.header_length block, data_within)

  fills_a_frame : (s : Settings) → s.size ≡ size → s.parameters ≡ said → Fill s units
  fills_a_frame s e q = record {
    count = length-units ∙ ap (λ (p : Parameters). (layout p.dac p.sbr).units) (sym q);
    some = some;
    full = subst (λ (p : Parameters). (layout p.dac p.sbr).header_length + length (checked_units units) ≡ 110 * s.size) (sym q) (omega (arith, full, e));
  }

  -- the bytes are the same

  others : drop 1 (unit_starts l.header_length units) ≡ numbers (drop 3 block) (l.units - 1)
  others =
      ap (λ (p : ℕ). drop 1 (unit_starts p units)) (sym tiles.first)
      ∙ ap (drop 1) (unit_starts-found block places l.units tiles.apart inside l.units 0 (zero-add l.units))
      ∙ fill_by_all (λ n. unsigned (drop 3 block) (12 * n) 12) (drop 1 found) (l.units - 1) 0
      (omega (arith, length-drop 1 found, length-map-range_with_len (λ n. get_or places n 0) 0 l.units)) at
    where
      found : List ℕ
      found = map (λ n. get_or places n 0) (range_with_len 0 l.units)

      at : (n : ℕ) → n < l.units - 1 → get_or (drop 1 found) n 0 ≡ unsigned (drop 3 block) (12 * n) 12
      at n h =
          get_or-drop 1 found n 0
          ∙ get_or-map-range_with_len (λ n. get_or places n 0) 0 l.units (1 + n) (1 + n) 0 (omega arith) (zero-add (1 + n))
          ∙ start_at l size (drop 3 block) (1 + n) (omega (arith, fits.few))
          ∙ start_packed l size (drop 3 block) (1 + n) (omega arith) (omega arith)
          ∙ ap (λ (i : ℕ). unsigned (drop 3 block) (12 * i) 12) less
        where
          less : 1 + n - 1 ≡ n
          less = omega arith

  packed-others : packed (digits (drop 1 (unit_starts l.header_length units))) ≡ take (l.header_length - 3) (drop 3 block)
  packed-others =
      ap (λ ns. packed (digits ns)) others
      ∙ packed-numbers (drop 3 block) (l.units - 1) (λ k. subst (λ (b : ℕ). b < 256) (sym (get_or-drop 3 block k 0)) (bytes (3 + k))) enough zeros
      ∙ ap (λ (k : ℕ). take k (drop 3 block)) long
    where
      long : (3 * (l.units - 1) + 1) / 2 ≡ l.header_length - 3
      long = omega (arith, length-header said.dac said.sbr)

      enough : (3 * (l.units - 1) + 1) / 2 ≤ length (drop 3 block)
      enough = omega (arith, length-drop 3 block, long, fits.short, data_within, right.in_range)

      zeros : (l.units - 1) % 2 ≡ 1 → unsigned (drop 3 block) (12 * (l.units - 1)) 4 ≡ 0
      zeros e = by l.aligned (aligned-odd said.dac said.sbr ∙ eq-eqb _ 1 e) right.filled
        where
          by : (a : Bool) → a ≡ true → (not a || eqb (unsigned (drop 3 block) (12 * (l.units - 1)) 4) 0) ≡ true
              → unsigned (drop 3 block) (12 * (l.units - 1)) 4 ≡ 0
          by true t o = eqb-true _ 0 o
          by false t o = cc

  -- the bytes that parameters and these units make behind the Fire word
  abbrev behind : Parameters → List ℕ
  behind p = parameter_byte p ∷ (packed (digits (drop 1 (unit_starts (layout p.dac p.sbr).header_length units))) ++ checked_units units)

  behind-said : behind said ≡ take (110 * size - 2) (drop 2 block)
  behind-said =
      ap₂ (λ (b : ℕ) bs. b ∷ bs) (parameter_byte-parameters byte (bytes 2) right.parameters)
      (ap₂ (λ bs cs. bs ++ cs) packed-others checked_units-units
      ∙ glued block 3 l.header_length (110 * size) (omega (arith, fits.long)) (omega (arith, fits.short, right.in_range)))
      ∙ ap (λ (k : ℕ). take k (byte ∷ drop 3 block)) more ∙ ap (take (110 * size - 2)) (sym (drop_more block 2 0 (omega (arith, data_within, right.in_range))))
    where
      more : suc (110 * size - 3) ≡ 110 * size - 2
      more = omega (arith, right.in_range)

  abbrev frame : Parameters → List ℕ
  frame p = two_bytes (fire_word (take 9 (behind p))) ++ behind p

  frame-said : frame said ≡ take (110 * size) block
  frame-said =
      ap (λ bs. two_bytes (fire_word (take 9 bs)) ++ bs) behind-said
      ∙ ap (λ bs. bs ++ take (110 * size - 2) (drop 2 block))
      (ap two_bytes (ap fire_word (take-take 9 (110 * size - 2) (drop 2 block) (omega (arith, right.in_range))) ∙ eqb-true _ _ right.fire)
      ∙ two_bytes-word block 0 (bytes 1) (omega (arith, data_within, right.in_range)))
      ∙ glued block 0 2 (110 * size) (omega arith) (omega (arith, right.in_range)) ∙ ap (λ (k : ℕ). take k block) whole
    where
      whole : 110 * size - 0 ≡ 110 * size
      whole = omega arith

  superframe-units : (s : Settings) → s.size ≡ size → s.parameters ≡ said → superframe s units ≡ block
  unfolding superframe
  superframe-units s e q =
      ap₂ (λ (k : ℕ) bs. bs ++ all_row_checks k bs) e (ap frame q ∙ frame-said)
      ∙ sym (codewords_are size block right.in_range.0 right.long bytes codewords)

  accepted : first_refusal (settings_complaints size said) ≡ None
  accepted =
      ap₂ (λ a b. cond (not a) (Some Size) (cond (not b) (Some refusals.Settings) None))
      (and_from (leb 1 size) (leb size 24) (le-leb 1 size right.in_range.0) (le-leb size 24 right.in_range.1)) (sendable-parameters byte right.parameters)

  makes_again : MakesAgain size block (written size block)
  makes_again = record {
    accepted = accepted;
    made = λ s e q. first_refusal-making_complaints s units (fills_a_frame s e q);
    same = superframe-units;
    by_calls =
        λ s e q begun buffer b long. subst (CallsMake units begun buffer) (superframe-units s e q)
        (calls_make s begun buffer b (omega (arith, long, e)) units (fills_a_frame s e q));
  }

-- a flawless block is repaired to itself
repaired-block : (size : ℕ) (block : List ℕ) (h : Header) → AreBytes block → (f : Flawless size block h) → f.legible.repaired ≡ block
repaired-block size block h bytes f =
    (few_wrong_corrected size 120 10 refl block block f.legible.repaired f.legible.repair long long f.legible.bytes bytes f.codewords none f.legible.rows).0
  where
    r : Right size f.legible.repaired
    r = (right_from size f.legible.repaired h f.legible.right).0

    long : length block ≡ size * 120
    long = omega (arith, f.legible.rows.long, r.long)

    none : (i : ℕ) → i < size → wrong (row_of size 120 block i) (row_of size 120 block i) * 2 ≤ 10
    none i k = omega (arith, distance-same laws256 (elements (row_of size 120 block i)))

-- a flawless block reads as its header
pub header-flawless : (size : ℕ) (block : List ℕ) (h : Header) → AreBytes block → Flawless size block h → header size block ≡ Ok h
header-flawless size block h bytes f = subst (λ b. header size b ≡ Ok h) (repaired-block size block h bytes f) f.legible.right

pub sealing_what_was_held : SealingWhatWasHeld
sealing_what_was_held size block h bytes f =
    subst (MakesAgain size block) (sym is)
    (makes_again size block bytes (right_from size block h opened).0 f.codewords (subst Tiles is (tiled_answer size block (Ok h) (sym opened)))
    (subst (λ g. (n : ℕ) → n < unit_count g → check_fits g block n ≡ true) is f.good))
  where
    opened : header size block ≡ Ok h
    opened = header-flawless size block h bytes f

    is : h ≡ written size block
    is = (right_from size block h opened).1
