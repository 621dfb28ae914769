-- Making a super frame by the calls of a writer: none is refused, and what they make reads as settings and units.
use Rattle.std.proofs.Common.{◌≡◌, ℕ, ◌+◌, ◌*◌, ◌<◌, cond, not, List, [], ◌++◌, length, get_or, take, drop, Some, None, Ok, Err, Result, sym, ap, ◌∙◌, subst, eq-eqb, take-append-drop}
use Rattle.std.proofs.lemmas.List.{take_more, drop_more}
use Rattle.gf.specs.declared.refusal.Refusal.{Refusal}
use Rattle.gf.specs.declared.refusal.Refusal.TheVariants.{Buffer}
use Rattle.gf.specs.Refusals.{first_refusal}
use Rattle.interleaver.specs.Rows.{AreBytes}
use Rattle.block.specs.declared.settings.Settings.{Settings}
use Rattle.block.specs.declared.writer.OpenWriter.{OpenWriter}
use Rattle.block.specs.declared.writer.SealedWriter.{SealedWriter}
use Rattle.block.specs.SuperFrames.{superframe, Fill}
use Rattle.block.specs.Writing.{Begins, Adds, AddsAll, Seals, making_complaints, Makes, MadeByCalls}
use Rattle.block.specs.Laws.{ReadsAs, CallsMake}
use Rattle.block.proofs.CallByCall.{run_counted, adds_one_more, calls_make}
use Rattle.block.proofs.OpeningSealed.{reads}

-- the units so far were added, and unit n comes next
module _ (units : List (List ℕ)) (begun : OpenWriter) (buffer block : List ℕ) (n : ℕ) (within : n < length units) (w : OpenWriter) (held : List ℕ)
    (run : AddsAll begun buffer (take n units) w held) (after : OpenWriter) (written : List ℕ) where
  pub next_accepted : CallsMake units begun buffer block → (answer : Result Unit Refusal) → Adds w after (get_or units n []) held written answer
      → answer ≡ Ok tt
  next_accepted calls =
      calls.accepted (take n units) (get_or units n []) (drop (n + 1) units)
      (sym (take-append-drop n units) ∙ ap (λ us. take n units ++ us) (drop_more units n [] within)) w held run after written

  pub next_added : Adds w after (get_or units n []) held written (Ok tt) → AddsAll begun buffer (take (n + 1) units) after written
  next_added add =
      subst (λ us. AddsAll begun buffer us after written) (sym (take_more units n [] within))
      (adds_one_more (take n units) begun buffer w held (get_or units n []) after written run add)

-- all units were added, and the buffer is sealed
module _ (s : Settings) (units : List (List ℕ)) (before : List ℕ) (fit : first_refusal (making_complaints s units) ≡ None) (f : Fill s units)
    (sized : length before ≡ 120 * s.size) (begun : OpenWriter) (b : Begins s begun) (whole : OpenWriter) (held : List ℕ)
    (run : AddsAll begun before units whole held) (after : List ℕ) where
  calls : CallsMake units begun before (superframe s units)
  calls = calls_make s begun before b sized units f

  pub seal_accepted : (refusal : Refusal) → Seals whole held after (Err refusal) → ⊥
  seal_accepted refusal m = let sealed = calls.sealed whole held run after (Err refusal) m in never sealed.0 refusal sealed.1
    where
      never : (sealed : SealedWriter) (refusal : Refusal) → ◌≡◌ {A = Result SealedWriter Refusal} (Err refusal) (Ok sealed) → ⊥
      never sealed refusal e = cc

  module _ (sealed : SealedWriter) (m : Seals whole held after (Ok sealed)) where
    written : after ≡ superframe s units
    written = (calls.sealed whole held run after (Ok sealed) m).2

    pub made : Makes s units before after (Ok sealed)
    made = (
      ap (λ b. cond (not b) (Some Buffer) (first_refusal (making_complaints s units))) (eq-eqb (length before) (120 * s.size) sized) ∙ fit,
      (f, m.1.0 ∙ ap (λ t. t.size) ((run_counted units begun before whole held run).0 ∙ b.settings), written),
    )

    pub made_reads : AreBytes after → ReadsAs s units after
    made_reads bytes = subst (ReadsAs s units) (sym written) (reads s units f (subst AreBytes written bytes))

    pub made_by_calls : MadeByCalls s units before after sealed
    made_by_calls = record { begun = begun; begins = b; whole = whole; held = held; added = run; seals = m }
