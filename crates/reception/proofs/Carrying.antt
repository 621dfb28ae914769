-- What is known of a written super frame that was received with few wrong bytes: it is clean and legible, never missed, and delivered as written.
use Rattle.std.proofs.Common.{◌≡◌, ℕ, ◌<◌, ◌≤◌, Bool, true, false, cond, List, get_or, lt-ltb, Some, None, Ok, refl, ap, ap₂, ◌∙◌, arith}
use Rattle.std.proofs.lemmas.List.FromFn.{get_or-map-range_with_len}
use Rattle.gf.specs.declared.refusal.Refusal.{Refusal}
use Rattle.interleaver.specs.declared.repair.Repair.{Repair}
use Rattle.interleaver.specs.Rows.{wrong}
use Rattle.block.specs.declared.parameters.DacRate.{DacRate}
use Rattle.block.specs.declared.parameters.DacRate.TheVariants.{Khz32, Khz48}
use Rattle.block.specs.declared.header.Header.{Header}
use Rattle.block.specs.Layouts.{layout}
use Rattle.block.specs.Headers.{header, unit_count, check_fits}
use Rattle.block.specs.Laws.{Clean}
use Rattle.reception.specs.declared.answers.UnitState.TheVariants.{Good, Bad}
use Rattle.reception.specs.declared.answers.Delivery.{Delivery}
use Rattle.reception.specs.declared.answers.Pulled.TheVariants.{Delivered}
use Rattle.reception.specs.Receptions.{pulled}
use Rattle.reception.specs.Blocks.{RepairOf, state_of_unit, states_of_units, Delivers, Misread, IsLegible, IsCleanAndLegible, SuperFrame, Carries}
use Rattle.reception.specs.Recovery.{AsWritten}
use Rattle.reception.proofs.RepairedBlocks.{repaired_once, carried_repair, written_reads}

few_units : (dac : DacRate) (sbr : Bool) → (layout dac sbr).units ≤ 6
few_units Khz32 true = omega arith
few_units Khz48 true = omega arith
few_units Khz32 false = omega arith
few_units Khz48 false = omega arith

units_good : (h : Header) (block : List ℕ) → ((n : ℕ) → n < unit_count h → check_fits h block n ≡ true)
    → (n : ℕ) → n < unit_count h → get_or (states_of_units h block) n None ≡ Some Good
units_good h block good n there =
    get_or-map-range_with_len (state_of_unit h block) 0 6 n n None (omega (arith, few_units h.parameters.dac h.parameters.sbr)) (omega arith)
    ∙ ap (λ t. cond t (Some (cond (check_fits h block n) Good Bad)) None) (lt-ltb n (unit_count h) there)
    ∙ ap (λ t. Some (cond t Good Bad)) (good n there)

readable : {size : ℕ} {received block : List ℕ} {repair : Repair} {h : Header} → RepairOf size received block repair → header size block ≡ Ok h
    → IsLegible size received
readable {block = block} {repair = repair} {h = h} r right =
    (h, record { repaired = block; repair = repair; bytes = r.bytes; rows = r.rows; right = right })

corrected : {size : ℕ} {received block : List ℕ} {repair : Repair} → (1 ≤ size) × (size ≤ 24) → RepairOf size received block repair
    → repair.rows_left ≡ 0
    → Clean size received
corrected {block = block} {repair = repair} in_range r none_left =
    record { in_range = in_range; long = r.long; repaired = block; repair = repair; bytes = r.bytes; rows = r.rows; none_left = none_left }

module _ {size : ℕ} {received : List ℕ} {written : SuperFrame} (c : Carries size received written) where
  reads : header size written.block ≡ Ok written.header
  reads = written_reads size written.block written.header c.written_long c.written_bytes c.flawless

  abbrev fixed : Repair
  fixed = record { changed = wrong received written.block; rows_left = 0; lowest_left = None }

  repaired_to : (block : List ℕ) (repair : Repair) → RepairOf size received block repair → (block ≡ written.block) × (repair ≡ fixed)
  repaired_to block repair repaired = repaired_once size received block written.block repair fixed repaired (carried_repair size received written c)

  pub as_written : {block before : List ℕ} {d : Delivery} → Delivers size received d block
      → AsWritten size received written (pulled before (Ok (Delivered d)) block)
  as_written {block} {before} {d} delivered = record {
    lent = before;
    d = d;
    event = ap (λ b. pulled before (Ok (Delivered d)) b) same.0;
    header = says;
    repair = same.1;
    units = units;
    all_good = λ n there. ap (λ u. get_or u n None) units ∙ units_good written.header written.block c.flawless.good n there;
  }
    where
      same : (block ≡ written.block) × (d.repair ≡ fixed)
      same = repaired_to block d.repair delivered.repaired

      says : d.header ≡ written.header
      says = cc (delivered.header_is, reads, ap (header size) same.0)

      units : d.units ≡ states_of_units written.header written.block
      units = delivered.units_are ∙ ap₂ states_of_units says same.0

  pub not_missed : {refusal : Refusal} → Misread size received refusal → ⊥
  not_missed {refusal} missed =
      let same = repaired_to missed.block missed.repair missed.repaired in
      cc (missed.refused, reads, ap (header size) same.0)

  pub clean_and_legible : IsCleanAndLegible size received
  clean_and_legible = let r = carried_repair size received written c in (corrected c.in_range r refl, readable r reads)

-- what is delivered was legible
pub legible : {size : ℕ} {received block : List ℕ} {d : Delivery} → Delivers size received d block → IsLegible size received
legible delivered = readable delivered.repaired delivered.header_is

-- and, where no row is left, clean
pub clean : {size : ℕ} {received block : List ℕ} {d : Delivery} → (1 ≤ size) × (size ≤ 24) → Delivers size received d block → d.repair.rows_left ≡ 0
    → IsCleanAndLegible size received
clean in_range delivered none_left = (corrected in_range delivered.repaired none_left, legible delivered)
