-- Frames of one length that stand one behind another in bytes: put together, one more written behind them, and all moved up by one.
use Rattle.std.proofs.Common.{◌≡◌, ℕ, zero, suc, ◌+◌, ◌-◌, ◌*◌, ◌≤◌, List, [], ◌∷◌, ◌++◌, map, length, take, drop, sym, refl, ap, ap₂, ◌∙◌, take-take, subst, Result, Ok, arith}
use Rattle.std.proofs.Math.Nat.{add-mul, one-mul}
use Rattle.std.proofs.Math.Seq.{take-add}
use Rattle.std.proofs.lemmas.List.{drop-take, drop-drop}
use Rattle.std.proofs.lemmas.List.FromFn.{map-range_with_len_more, length-map-range_with_len}
use Rattle.std.proofs.lemmas.Slice.{between-put_mid, take-put_mid_below}
use lib.ListN.{length-drop}
use lib.Seq.{take-paste}
use borrow.Rule.Slice.PartMut.{put_mid}
use Rattle.std.specs.List.{range_with_len, concat, copy_within}
use Rattle.gf.specs.declared.refusal.Refusal.{Refusal}
use Rattle.sources.specs.declared.source.Next.{Next}
use Rattle.sources.specs.declared.source.Next.TheVariants.{Frame}
use Rattle.sources.specs.Sources.{Source, without_first, TakesNext}
use Rattle.sources.specs.Frames.{frame_at}
use Rattle.reception.specs.steps.Holding.{Holding, holding}

module _ (frame_length : ℕ) where
  abbrev pub frames : ℕ → List ℕ → List (List ℕ)
  frames count bytes = map (frame_at frame_length bytes) (range_with_len 0 count)

  frame_is : (bytes : List ℕ) (n : ℕ) → frame_at frame_length bytes n ≡ take frame_length (drop (n * frame_length) bytes)
  frame_is bytes n = ap (λ (k : ℕ). take k (drop (n * frame_length) bytes)) (let e : n * frame_length + frame_length - n * frame_length ≡ frame_length = omega arith in e)

  -- frame by frame from the front
  behind : (bytes : List ℕ) (start n : ℕ) → map (frame_at frame_length bytes) (range_with_len (start + 1) n) ≡ map (frame_at frame_length (drop frame_length bytes)) (range_with_len start n)
  behind bytes start zero = refl
  behind bytes start (suc n) =
      ap₂ ◌∷◌
      (frame_is bytes (start + 1)
      ∙ ap (λ (at : ℕ). take frame_length (drop at bytes)) (let e : (start + 1) * frame_length ≡ frame_length + start * frame_length = omega (arith, add-mul start 1 frame_length, one-mul frame_length) in e)
      ∙ ap (take frame_length) (sym (drop-drop (start * frame_length) frame_length bytes)) ∙ sym (frame_is (drop frame_length bytes) start))
      (behind bytes (start + 1) n)

  first : (bytes : List ℕ) → frame_at frame_length bytes 0 ≡ take frame_length bytes
  first bytes = frame_is bytes 0 ∙ ap (λ (at : ℕ). take frame_length (drop at bytes)) (let e : 0 * frame_length ≡ 0 = omega arith in e)

  pub frames_more : (bytes : List ℕ) (n : ℕ) → frames (suc n) bytes ≡ take frame_length bytes ∷ frames n (drop frame_length bytes)
  frames_more bytes n = ap₂ ◌∷◌ (first bytes) (behind bytes 0 n)

  front : (n : ℕ) → suc n * frame_length ≡ frame_length + n * frame_length
  front n = omega arith

  -- only the bytes of these frames matter
  pub frames_of_front : (n : ℕ) (bytes other : List ℕ) → take (n * frame_length) bytes ≡ take (n * frame_length) other → frames n bytes ≡ frames n other
  frames_of_front zero bytes other same = refl
  frames_of_front (suc n) bytes other same =
      frames_more bytes n
      ∙ ap₂ ◌∷◌ (take_less bytes ∙ ap (take frame_length) same ∙ sym (take_less other))
      (frames_of_front n (drop frame_length bytes) (drop frame_length other)
      (drop_less bytes ∙ ap (drop frame_length) same ∙ sym (drop_less other)))
      ∙ sym (frames_more other n)
    where
      take_less : (b : List ℕ) → take frame_length b ≡ take frame_length (take (suc n * frame_length) b)
      take_less b = sym (take-take frame_length (suc n * frame_length) b (omega arith))

      drop_less : (b : List ℕ) → take (n * frame_length) (drop frame_length b) ≡ drop frame_length (take (suc n * frame_length) b)
      drop_less b = sym (ap (λ (k : ℕ). drop frame_length (take k b)) (front n) ∙ drop-take frame_length (n * frame_length) b)

  -- put together
  pub concat-frames : (n : ℕ) (bytes : List ℕ) → concat (frames n bytes) ≡ take (n * frame_length) bytes
  concat-frames zero bytes = ap (λ (k : ℕ). take k bytes) (let e : 0 ≡ 0 * frame_length = omega arith in e)
  concat-frames (suc n) bytes =
      ap concat (frames_more bytes n)
      ∙ ap (λ behind. take frame_length bytes ++ behind) (concat-frames n (drop frame_length bytes))
      ∙ sym (ap (λ (k : ℕ). take k bytes) (front n) ∙ take-add frame_length (n * frame_length) bytes)

  -- one more is written behind them
  pub frames_written : (n : ℕ) (bytes frame : List ℕ) → n * frame_length + frame_length ≤ length bytes → length frame ≡ frame_length
      → frames (n + 1) (put_mid (n * frame_length) frame_length bytes frame) ≡ frames n bytes ++ frame ∷ []
  frames_written n bytes frame within long =
      map-range_with_len_more (frame_at frame_length (put_mid (n * frame_length) frame_length bytes frame)) 0 n n (omega arith)
      ∙ ap₂ (λ (before : List (List ℕ)) (last : List ℕ). before ++ last ∷ [])
      (frames_of_front n (put_mid (n * frame_length) frame_length bytes frame) bytes (take-put_mid_below (n * frame_length) frame_length bytes frame (n * frame_length) (omega arith) (omega arith)))
      (between-put_mid (n * frame_length) frame_length bytes frame (n * frame_length + frame_length) (omega arith) (omega (arith, long)))

  -- the first of them goes, and the others move up
  pub frames_moved : (n : ℕ) (bytes moved : List ℕ) → take (n * frame_length) moved ≡ take (n * frame_length) (drop frame_length bytes)
      → frames n moved ≡ drop 1 (frames (suc n) bytes)
  frames_moved n bytes moved same = frames_of_front n moved (drop frame_length bytes) same ∙ sym (ap (drop 1) (frames_more bytes n))

  -- the same, of bytes that are copied to the front
  pub frames_copied : (n : ℕ) (bytes : List ℕ) → suc n * frame_length ≤ length bytes
      → frames n (copy_within bytes frame_length (suc n * frame_length) 0) ≡ drop 1 (frames (suc n) bytes)
  frames_copied n bytes within =
      frames_moved n bytes (copy_within bytes frame_length (suc n * frame_length) 0)
      (ap (λ (k : ℕ). take k (copy_within bytes frame_length (suc n * frame_length) 0)) (let e : n * frame_length ≡ 0 + (suc n * frame_length - frame_length) = omega arith in e)
      ∙ take-paste bytes 0 (drop frame_length bytes) (suc n * frame_length - frame_length) (omega arith) (omega (arith, length-drop frame_length bytes))
      ∙ ap (λ (k : ℕ). take k (drop frame_length bytes)) (let e : suc n * frame_length - frame_length ≡ n * frame_length = omega arith in e))

-- how many frames there are
pub frames_counted : (frame_length count : ℕ) (bytes : List ℕ) (held : Holding) → holding frame_length count bytes ≡ held → count ≡ length held.frames
frames_counted frame_length count bytes held is =
    sym (length-map-range_with_len (frame_at frame_length bytes) 0 count) ∙ ap (λ (h : Holding). length h.frames) is

-- the frame that a source gave was in front
pub given : (s after : Source) (lent filled : List ℕ) (answer : Result Next Refusal) → TakesNext s lent after filled answer → answer ≡ Ok Frame
    → (s.waiting ≡ filled ∷ (without_first s).waiting) × (after ≡ without_first s)
given s after lent filled answer taken is = (subst (TakesNext s lent after filled) is taken).1
