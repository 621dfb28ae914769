-- A header is read exactly where every condition holds; and what the packed starts take of it.
use Rattle.std.proofs.Common.{◌≡◌, ℕ, zero, suc, ◌+◌, ◌-◌, ◌*◌, ◌/◌, ◌%◌, ◌<◌, ◌≤◌, Bool, true, false, cond, not, ◌&&◌, eqb, leb, List, [], ◌∷◌, length, get_or, drop, length-append, length-drop, is_some, Some, None, Ok, Option, Result, unwrap_or, refl, ap, ◌∙◌, ap₂, arith, lt-ltb, ne_eqb, leb-true, le-leb, le-ltb, eqb-true, eq-eqb}
use Rattle.std.proofs.lemmas.Bool.{and_parts, and_from}
use Rattle.gf.specs.declared.refusal.Refusal.{Refusal}
use Rattle.gf.specs.declared.refusal.Refusal.TheVariants as refusals
use Rattle.gf.specs.Refusals.{unless}
use Rattle.block.specs.declared.header.Header.{Header}
use Rattle.block.specs.declared.parameters.DacRate.{DacRate}
use Rattle.block.specs.declared.parameters.DacRate.TheVariants.{Khz32, Khz48}
use Rattle.block.specs.declared.parameters.Layout.{Layout}
use Rattle.block.specs.declared.settings.Settings.{Settings}
use Rattle.block.specs.Bytes.{unsigned}
use Rattle.block.specs.Layouts.{layout, right}
use Rattle.block.specs.Headers.{start, crowded, fire_fits, fills, layout_of, written, crowded_of, header}
use Rattle.block.specs.SuperFrames.{parameter_byte, checked_units, unit_starts, digits, packed, layout_for, super_frame_data}
use Rattle.block.proofs.PackedStarts.{length-packed}
use Rattle.block.proofs.UnitStarts.{length-unit_starts}

-- the packed starts of all units but the first end with the header
pub length-header : (d : DacRate) (sbr : Bool) → 3 + (3 * ((layout d sbr).units - 1) + 1) / 2 ≡ (layout d sbr).header_length
length-header Khz32 true = refl
length-header Khz48 true = refl
length-header Khz32 false = refl
length-header Khz48 false = refl

-- four bits fill the last byte exactly where their number is odd
pub aligned-odd : (d : DacRate) (sbr : Bool) → (layout d sbr).aligned ≡ eqb (((layout d sbr).units - 1) % 2) 1
aligned-odd Khz32 true = refl
aligned-odd Khz48 true = refl
aligned-odd Khz32 false = refl
aligned-odd Khz48 false = refl

-- no start is crowded where each is three bytes after the one before
pub crowded-none : (places : List ℕ) (n count : ℕ)
    → ((k : ℕ) → n ≤ k → k < n + count → get_or places (k - 1) 0 + 3 ≤ get_or places k 0) → crowded places n count ≡ None
crowded-none places n zero apart = refl
crowded-none places n (suc count) apart =
    ap (λ b. cond b (Some n) (crowded places (suc n) count)) (le-ltb _ _ (apart n (omega arith) (omega arith)))
    ∙ crowded-none places (suc n) count (λ k low high. apart k (omega arith) (omega arith))

-- a start between the first and the last is packed
pub start_packed : (l : Layout) (size : ℕ) (packed : List ℕ) (n : ℕ) → 1 ≤ n → n < l.units → start l size packed n ≡ unsigned packed (12 * (n - 1)) 12
start_packed l size packed n h k =
    ap₂ (λ a b. cond a l.header_length (cond b (unsigned packed (12 * (n - 1)) 12) (cond (eqb n l.units) (110 * size) 0)))
    (ne_eqb n 0 (λ e. omega arith)) (lt-ltb n l.units k)

-- every condition of reading a header holds
pub record Right (size : ℕ) (block : List ℕ) : Type 0 where
  pub in_range : (1 ≤ size) × (size ≤ 24)
  pub long : length block ≡ 120 * size
  pub fire : fire_fits block ≡ true
  pub parameters : right (get_or block 2 0) ≡ true
  pub filled : fills (layout_of block) (drop 3 block) ≡ true
  pub apart : crowded_of size block ≡ None

module _ (size : ℕ) (block : List ℕ) where
  -- the header by the outcomes of its conditions
  abbrev decided : Bool → Bool → Bool → Bool → Bool → Option ℕ → Result Header Refusal
  decided sized long fire parameters filled found =
      unless ((not sized, refusals.Size) ∷ (not long, refusals.Buffer) ∷ (not fire, refusals.Fire) ∷ (not parameters, refusals.Parameters)
      ∷ (not filled, refusals.Alignment ((layout_of block).header_length - 1)) ∷ (is_some found, refusals.Starts (unwrap_or found 0)) ∷ []) (written size block)

  pub header-right : Right size block → header size block ≡ Ok (written size block)
  header-right r =
      by (leb 1 size && leb size 24) (eqb (length block) (120 * size)) (fire_fits block) (right (get_or block 2 0))
      (fills (layout_of block) (drop 3 block)) (crowded_of size block)
      (and_from (leb 1 size) _ (le-leb 1 size r.in_range.0) (le-leb size 24 r.in_range.1)) (eq-eqb _ _ r.long) r.fire r.parameters r.filled r.apart
    where
      by : (a b c d e : Bool) (found : Option ℕ) → a ≡ true → b ≡ true → c ≡ true → d ≡ true → e ≡ true → found ≡ None
          → decided a b c d e found ≡ Ok (written size block)
      by false b c d e found p q r t u v = cc
      by true false c d e found p q r t u v = cc
      by true true false d e found p q r t u v = cc
      by true true true false e found p q r t u v = cc
      by true true true true false found p q r t u v = cc
      by true true true true true (Some n) p q r t u v = cc
      by true true true true true None p q r t u v = refl

  -- what a header says of its block
  pub right_from : (h : Header) → header size block ≡ Ok h → Right size block × (h ≡ written size block)
  right_from h is =
      by (leb 1 size && leb size 24) (eqb (length block) (120 * size)) (fire_fits block) (right (get_or block 2 0))
      (fills (layout_of block) (drop 3 block)) (crowded_of size block) refl refl refl refl refl refl is
    where
      by : (a b c d e : Bool) (found : Option ℕ) → (leb 1 size && leb size 24) ≡ a → eqb (length block) (120 * size) ≡ b → fire_fits block ≡ c
          → right (get_or block 2 0) ≡ d → fills (layout_of block) (drop 3 block) ≡ e → crowded_of size block ≡ found
          → decided a b c d e found ≡ Ok h → Right size block × (h ≡ written size block)
      by false b c d e found p q r t u v z = cc
      by true false c d e found p q r t u v z = cc
      by true true false d e found p q r t u v z = cc
      by true true true false e found p q r t u v z = cc
      by true true true true false found p q r t u v z = cc
      by true true true true true (Some n) p q r t u v z = cc
      by true true true true true None p q r t u v z =
          let both = and_parts (leb 1 size) _ p in (
            record {
              in_range = (leb-true 1 size both.0, leb-true size 24 both.1);
              long = eqb-true _ _ q;
              fire = r;
              parameters = t;
              filled = u;
              apart = v;
            },
            cc,
          )

-- the bytes of a super frame

-- the header of a super frame behind its Fire word
abbrev pub header_bytes : Settings → List (List ℕ) → List ℕ
header_bytes s us = parameter_byte s.parameters ∷ packed (digits (drop 1 (unit_starts (layout_for s).header_length us)))

module _ (s : Settings) (us : List (List ℕ)) (count : length us ≡ (layout_for s).units) where
  pub length-header_bytes : length (header_bytes s us) + 2 ≡ (layout_for s).header_length
  length-header_bytes =
      let starts = unit_starts (layout_for s).header_length us in
      omega (
        arith,
        length-packed (drop 1 starts),
        length-drop 1 starts,
        length-unit_starts (layout_for s).header_length us,
        length-header s.parameters.dac s.parameters.sbr,
        count,
      )

  pub length-super_frame_data : length (super_frame_data s us) ≡ (layout_for s).header_length + length (checked_units us)
  length-super_frame_data = omega (arith, length-header_bytes, length-append (header_bytes s us) (checked_units us))
