use Rattle.std.proofs.Common.{◌≡◌, ℕ, ◌+◌, ◌*◌, length, get_or, sym, ◌∙◌, ap₂, arith, below_more, get_or-set_other, get_or-set_same}
use Rattle.std.proofs.Common.{◌≢◌, ◌<◌}
use Rattle.std.proofs.lemmas.List.{ext_get_or}
use Rattle.block.specs.SuperFrames.{digits, packed}
use Rattle.block.proofs.PackedStarts.{length-packed, get_or-packed}
use Rattle.block.proofs.packed_starts.pack.Goals as goal

pub loop-k-preserved : goal.loop-k-preserved
loop-k-preserved c =
    let numbers = c.args.numbers.now in
    let here : c.digit.result * 16 + c.digit-in-loop-k.result ≡ get_or (packed (digits numbers)) c.loop-k.k 0
    = ap₂ (λ (x y : ℕ). x * 16 + y) c.digit.ensures.value c.digit-in-loop-k.ensures.value ∙ sym (get_or-packed (digits numbers) c.loop-k.k) in
    below_more _ _
    (λ i h. let ne : i ≢ c.loop-k.k = omega arith in rw get_or-set_other (c.loop-k.invariant i h))
    (let lt : c.loop-k.k < length c.loop-k.bytes = omega arith in rw get_or-set_same here)

pub returns : goal.returns
returns c =
    let numbers = c.args.numbers.now in
    ext_get_or 0 c.loop-k.bytes (packed (digits numbers))
    (c.loop-k.auto.bytes ∙ c.requires.bytes ∙ sym (length-packed numbers))
    (λ i h. c.loop-k.invariant i (omega arith))
