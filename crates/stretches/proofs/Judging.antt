-- What repairing and opening a block decides: that it carries a super frame, or that it is not legible.
use Rattle.std.proofs.Common.{◌≡◌, ℕ, suc, ◌*◌, ◌<◌, ◌≤◌, Bool, true, false, cond, not, ◌↔◌, eqb, eq-eqb, le-leb, ltb, lt-ltb, List, [], ◌∷◌, length, get_or, Option, Some, None, is_none, Ok, Err, Result, MatchResult, sym, refl, ap, ◌∙◌, subst, arith}
use Rattle.std.proofs.lemmas.Bool.{false≢true, and_from}
use Rattle.std.proofs.lemmas.List.{length-map}
use Rattle.std.proofs.lemmas.List.Sums.{get_or-le-sum_by}
use Rattle.std.specs.List.{count_by}
use Rattle.std.specs.Result.{is_err}
use Rattle.gf.specs.declared.refusal.Refusal.{Refusal}
use Rattle.gf.specs.declared.refusal.Refusal.TheVariants.{Buffer, Index, UnitCheck}
use Rattle.gf.specs.Theory.{Operations, Laws}
use Rattle.gf.specs.Fields.{gf256}
use Rattle.gf.specs.laws.FieldLaws.{laws256}
use Rattle.gf.specs.Refusals.{first_refusal}
use Rattle.codes.specs.Codewords.{distance, Codeword}
use Rattle.interleaver.specs.declared.repair.Repair.{Repair}
use Rattle.interleaver.specs.Rows.{row_of, elements, wrong, RowRepaired, AreBytes}
use Rattle.interleaver.proofs.Bytes.{same_bytes}
use Rattle.block.specs.declared.reader.Opened.{Opened}
use Rattle.block.specs.declared.reader.AccessUnit.{AccessUnit}
use Rattle.block.specs.BlockRows.{RowsRepaired, RowsRight}
use Rattle.block.specs.declared.header.Header.{Header}
use Rattle.block.specs.Headers.{header, there, unit_count, check_fits}
use Rattle.block.specs.Laws.{untouched}
use Rattle.block.specs.States.{header_of, FindsUnit, unit_complaints}
use Rattle.block.proofs.HeaderParts.{right_from}
use Rattle.block.proofs.Untouched.{repaired-untouched}
use Rattle.reception.specs.Blocks.{Misread, IsLegible, SuperFrame}
use Rattle.reception.proofs.RepairedBlocks.{repaired_once, carried_repair, written_reads}
use Rattle.reception.proofs.Judging.{never_both}
use Rattle.stretches.specs.Instances.{Carried}
use Rattle.stretches.specs.steps.Reading.{Reads, AllGood}

-- none of three refusals applies, so the last test passes
last_passes : (a b c : Bool) (first second third : Refusal) → first_refusal ((not a, first) ∷ (not b, second) ∷ (not c, third) ∷ []) ≡ None → c ≡ true
last_passes a b true first second third none = refl
last_passes false b false first second third none = cc
last_passes true false false first second third none = cc
last_passes true true false first second third none = cc

-- where all three tests pass, none applies
pub none_applies : (a b c : Bool) (first second third : Refusal) → a ≡ true → b ≡ true → c ≡ true
    → first_refusal ((not a, first) ∷ (not b, second) ∷ (not c, third) ∷ []) ≡ None
none_applies true true true first second third p q r = refl
none_applies false b c first second third p q r = cc
none_applies true false c first second third p q r = cc
none_applies true true false first second third p q r = cc

no_refusal : {A : Type 0} (first : Option Refusal) (refusal : Refusal) → first ≡ None → first ≡ Some refusal → A
no_refusal first refusal none some = cc

module _ (o : Opened) (block : List ℕ) (n : ℕ) (answer : Result AccessUnit Refusal) (found : FindsUnit o block n answer) where
  -- the check of a unit that is found is right
  pub found_good : is_err answer ≡ false → check_fits (header_of o) block n ≡ true
  found_good = by answer found
    where
      by : (answer : Result AccessUnit Refusal) → FindsUnit o block n answer → is_err answer ≡ false → check_fits (header_of o) block n ≡ true
      by (Ok unit) found is =
          last_passes (eqb (length block) (120 * o.header.size)) (there o.header n) (check_fits o.header block n) Buffer Index (UnitCheck n) found.0
      by (Err refusal) found is = absurd (false≢true (sym is))

  -- and that of a unit that is there and is not found is wrong
  pub not_found_bad : length block ≡ 120 * (header_of o).size → n < unit_count (header_of o) → is_err answer ≡ true
      → check_fits (header_of o) block n ≡ true → ⊥
  not_found_bad long within = by answer found
    where
      there_is : there o.header n ≡ true
      there_is = and_from (ltb n (unit_count o.header)) _ (lt-ltb n (unit_count o.header) within) (le-leb _ _ (o.tiles.apart n within))

      by : (answer : Result AccessUnit Refusal) → FindsUnit o block n answer → is_err answer ≡ true → check_fits (header_of o) block n ≡ true → ⊥
      by (Ok unit) found is fits = false≢true is
      by (Err refusal) found is fits =
          no_refusal (first_refusal (unit_complaints o.header block n)) refusal
          (none_applies (eqb (length block) (120 * o.header.size)) (there o.header n) (check_fits o.header block n) Buffer Index (UnitCheck n)
          (eq-eqb _ _ long) there_is fits)
          found

-- a block is refused exactly where it is not legible
pub refused_or_legible : (size : ℕ) (received block : List ℕ) (answer : Result (Opened × Repair) Refusal)
    → MatchResult answer (λ read. Reads size received block read.0 read.1) (Misread size received)
    → (is_err answer ≡ true) ↔ (IsLegible size received → ⊥)
refused_or_legible size received block (Ok read) reads = (
  λ is. absurd (false≢true is),
  λ none. absurd (none (
    header_of read.0,
    record { repaired = block; repair = read.1; bytes = reads.repaired.bytes; rows = reads.repaired.rows; right = reads.header_is },
  )),
)
refused_or_legible size received block (Err refusal) missed = (λ _. never_both size received refusal missed, λ _. refl)

-- a block that carries a super frame is legible, and so not refused
pub carried_not_refused : (size wrong_bytes : ℕ) (received : List ℕ) (refusal : Refusal) → Misread size received refusal
    → Carried size wrong_bytes received → ⊥
carried_not_refused size wrong_bytes received refusal missed c =
    let w = c.written in
    let r = carried_repair size received w c.carries in
    never_both size received refusal missed (
      w.header,
      record {
        repaired = w.block;
        repair = record { changed = wrong received w.block; rows_left = 0; lowest_left = None };
        bytes = r.bytes;
        rows = r.rows;
        right = written_reads size w.block w.header c.carries.written_long c.carries.written_bytes c.carries.flawless;
      },
    )

-- nothing is counted, so nothing passes
none_counted : {X : Type 0} (p : X → Bool) (xs : List X) (d : X) (k : ℕ) → count_by p xs ≡ 0 → k < length xs → p (get_or xs k d) ≡ false
none_counted p xs d k none h = by (p (get_or xs k d)) (get_or-le-sum_by (λ x. cond (p x) 1 0) xs k d h)
  where
    by : (b : Bool) → cond b 1 0 ≤ count_by p xs → b ≡ false
    by false few = refl
    by true few = absurd (omega (arith, none, few))

-- words that differ nowhere are the same
same_words : {E : Type 0} {f : Operations E} (l : Laws f) (u v : List E) → length u ≡ length v → distance f u v ≡ 0 → u ≡ v
same_words l [] [] e none = refl
same_words l [] (b ∷ v) e none = absurd (omega arith)
same_words l (a ∷ u) [] e none = absurd (omega arith)
same_words {f = f} l (a ∷ u) (b ∷ v) e none = by (f.equal a b) refl none (same_words l u v (omega arith))
  where
    by : (t : Bool) → f.equal a b ≡ t → cond t (distance f u v) (suc (distance f u v)) ≡ 0 → (distance f u v ≡ 0 → u ≡ v) → a ∷ u ≡ b ∷ v
    by true same less others =
        let first : a ≡ b = l.equal_no a b same in
        let rest : u ≡ v = others less in
        cc
    by false other less others = absurd (omega arith)

-- a row that is not left is a codeword, at most five bytes away
row_right : (before after : List ℕ) (outcome : Option ℕ) → RowRepaired 10 before after outcome → is_none outcome ≡ false
    → Codeword gf256 10 (elements after) × (wrong before after ≤ 5)
row_right before after (Some count) repaired is = (repaired.codeword, omega (arith, repaired.counted, repaired.few))
row_right before after None repaired is = absurd (false≢true (sym is))

rows_right : (size : ℕ) (before after : List ℕ) (repair : Repair) → RowsRepaired size before after repair → repair.rows_left ≡ 0
    → (i : ℕ) → i < size
    → Codeword gf256 10 (elements (row_of size 120 after i)) × (wrong (row_of size 120 before i) (row_of size 120 after i) ≤ 5)
rows_right size before after repair r none i h =
    row_right (row_of size 120 before i) (row_of size 120 after i) (get_or r.outcomes i None) (r.by_row i h)
    (none_counted is_none r.outcomes None i (sym r.left ∙ none) (omega (arith, r.each)))

-- A block of which no row is left, whose header is read and whose units are good carries the super frame that its repair gives.
pub carried : (size wrong_bytes : ℕ) (received block : List ℕ) (opened : Opened) (repair : Repair) → (1 ≤ size) × (size ≤ 24) → AreBytes received
    → Reads size received block opened repair → repair.changed ≡ wrong_bytes → repair.rows_left ≡ 0 → AllGood (header_of opened) block
    → Carried size wrong_bytes received
carried size wrong_bytes received block opened repair in_range bytes reads changed none_left good = record {
  written = record { block = block; header = header_of opened };
  carries = record {
    in_range = in_range;
    received_long = reads.repaired.long;
    received_bytes = bytes;
    written_long = reads.repaired.rows.long ∙ reads.repaired.long;
    written_bytes = reads.repaired.bytes;
    flawless = record {
      legible = record {
        repaired = block;
        repair = untouched;
        bytes = reads.repaired.bytes;
        rows = repaired-untouched size 120 10 block refl codewords;
        right = reads.header_is;
      };
      codewords = codewords;
      good = good;
    };
    few_wrong = λ i h. (rows i h).1;
  };
  counted = sym reads.repaired.rows.changed ∙ changed;
}
  where
    rows : (i : ℕ) → i < size
        → Codeword gf256 10 (elements (row_of size 120 block i)) × (wrong (row_of size 120 received i) (row_of size 120 block i) ≤ 5)
    rows = rows_right size received block repair reads.repaired.rows none_left

    codewords : RowsRight size block
    codewords i h = (rows i h).0

-- What is read of a block that carries a super frame.
pub record ReadsCarried (wrong_bytes : ℕ) (block : List ℕ) (opened : Opened) (repair : Repair) : Type 0 where
  pub changes : (repair.changed ≡ wrong_bytes) × (repair.rows_left ≡ 0)
  pub all_good : AllGood (header_of opened) block

pub carried_read : (size wrong_bytes : ℕ) (received block : List ℕ) (opened : Opened) (repair : Repair) → Reads size received block opened repair
    → Carried size wrong_bytes received → ReadsCarried wrong_bytes block opened repair
carried_read size wrong_bytes received block opened repair reads c = record {
  changes = (ap (λ (r : Repair). r.changed) same.1 ∙ c.counted, ap (λ (r : Repair). r.rows_left) same.1);
  all_good = subst (λ b. AllGood (header_of opened) b) (sym same.0) (subst (λ h. AllGood h w.block) header_is c.carries.flawless.good);
}
  where
    w : SuperFrame
    w = c.written

    same : (block ≡ w.block) × (repair ≡ record { changed = wrong received w.block; rows_left = 0; lowest_left = None })
    same = repaired_once size received block w.block repair _ reads.repaired (carried_repair size received w c.carries)

    header_is : w.header ≡ header_of opened
    header_is =
        cc (
          written_reads size w.block w.header c.carries.written_long c.carries.written_bytes c.carries.flawless,
          reads.header_is,
          ap (header size) same.0,
        )

-- where no byte is wrong, the block is the written one
pub none_wrong : (size : ℕ) (received : List ℕ) (c : Carried size 0 received) → c.written.block ≡ received
none_wrong size received c =
    let w = c.carries in
    sym (same_bytes received c.written.block w.received_bytes w.written_bytes
    (same_words laws256 (elements received) (elements c.written.block) (simp length-map (w.received_long ∙ sym w.written_long)) c.counted))

-- the block that is read is as long as its header says
pub read_long : (size : ℕ) (received block : List ℕ) (opened : Opened) (repair : Repair) → Reads size received block opened repair
    → length block ≡ 120 * (header_of opened).size
read_long size received block opened repair reads =
    let r = right_from size block (header_of opened) reads.header_is in
    r.0.long ∙ ap (λ (h : Header). 120 * h.size) (sym r.1)
