-- Five frames in a row of a recording: of its frames, and of those that a run takes.
use Rattle.std.proofs.Common.{◌≡◌, ℕ, zero, suc, ◌+◌, ◌-◌, ◌*◌, ◌/◌, ◌≤◌, List, ◌++◌, length, take, drop, sym, refl, ap, ap₂, ◌∙◌, take_at, drop_at, arith}
use Rattle.std.proofs.Math.Nat.{div-mul-le_self}
use Rattle.std.proofs.lemmas.Nat.{mul-le}
use Rattle.std.proofs.lemmas.List.{append_assoc, drop-drop, drop-append-le, take-append-le, length-drop}
use Rattle.std.proofs.lemmas.List.FromFn.{take-map-range_with_len}
use Rattle.std.specs.List.{concat}
use Rattle.sources.specs.Frames.{frame_at, whole_frames}
use Rattle.reception.proofs.Framing.{frames, frames_more, concat-frames}
use Rattle.stretches.specs.Instances.{five_frames}

-- five frames are as long as a block, and stand in the recording
pub five_within : (size n place : ℕ) → place + 5 ≤ n / (24 * size) → place * (24 * size) + 120 * size ≤ n
five_within size n place there =
    omega (arith, mul-le (place + 5) (24 * size) (n / (24 * size)) (24 * size) there (omega arith), div-mul-le_self n (24 * size))

module _ (long : ℕ) where
  -- all but so many frames
  drop_frames : (n more : ℕ) (bytes : List ℕ) → drop n (frames long (n + more) bytes) ≡ frames long more (drop (n * long) bytes)
  drop_frames zero more bytes =
      ap₂ (λ (k m : ℕ). frames long k (drop m bytes)) (let e : 0 + more ≡ more = omega arith in e) (let e : 0 ≡ 0 * long = omega arith in e)
  drop_frames (suc n) more bytes =
      ap (λ (k : ℕ). drop (suc n) (frames long k bytes)) (let e : suc n + more ≡ suc (n + more) = omega arith in e)
      ∙ ap (drop (suc n)) (frames_more long bytes (n + more))
      ∙ drop_frames n more (drop long bytes)
      ∙ ap (frames long more) (drop-drop (n * long) long bytes ∙ ap (λ (k : ℕ). drop k bytes) (let e : long + n * long ≡ suc n * long = omega arith in e))

  -- and the first of them
  take_frames : (n more : ℕ) (bytes : List ℕ) → take n (frames long (n + more) bytes) ≡ frames long n bytes
  take_frames n more bytes = take-map-range_with_len (frame_at long bytes) 0 (n + more) n (omega arith)

-- five frames of a recording put together are its bytes
pub five_of_line : (size place : ℕ) (bytes : List ℕ) → place + 5 ≤ length bytes / (24 * size)
    → concat (take 5 (drop place (whole_frames (24 * size) bytes))) ≡ five_frames size bytes place
five_of_line size place bytes there =
    let long = 24 * size in
    let more = length bytes / long - place - 5 in
    ap (λ (n : ℕ). concat (take 5 (drop place (frames long n bytes)))) (let e : length bytes / long ≡ place + (5 + more) = omega arith in e)
    ∙ ap (λ (l : List (List ℕ)). concat (take 5 l)) (drop_frames long place (5 + more) bytes)
    ∙ ap concat (take_frames long 5 more (drop (place * long) bytes))
    ∙ concat-frames long 5 (drop (place * long) bytes)
    ∙ ap (λ (n : ℕ). take n (drop (place * long) bytes)) (let e : 5 * long ≡ place * long + 120 * size - place * long = omega arith in e)

-- of what waits and more behind it, five that waited
pub five_of_more : {A : Type 0} (waiting more : List A) (n : ℕ) → n + 5 ≤ length waiting → take 5 (drop n (waiting ++ more)) ≡ take 5 (drop n waiting)
five_of_more waiting more n h =
    ap (take 5) (drop-append-le n waiting more (omega arith)) ∙ take-append-le 5 (drop n waiting) more (omega (arith, length-drop n waiting))

-- five in a row of what was taken stand at the same place of what waited
pub five_taken : {A : Type 0} (older five newer rest waiting more : List A) → waiting ++ more ≡ (older ++ (five ++ newer)) ++ rest → length five ≡ 5
    → length older + 5 ≤ length waiting → five ≡ take 5 (drop (length older) waiting)
five_taken older five newer rest waiting more same long inside =
    sym (take_at five (newer ++ rest) 5 long)
    ∙ ap (take 5) (sym (append_assoc five newer rest) ∙ sym (drop_at older ((five ++ newer) ++ rest) (length older) refl)
    ∙ ap (drop (length older)) (sym (append_assoc older (five ++ newer) rest) ∙ sym same))
    ∙ five_of_more waiting more (length older) inside
