use Rattle.std.proofs.Common.{◌≡◌, ℕ, ◌+◌, ◌*◌, ◌/◌, ◌%◌, ◌<◌, get_or, sym, ap, ◌∙◌, arith, rules}
use Rattle.block.specs.Bytes.{unsigned}
use Rattle.block.proofs.Reading.{unsigned_first, unsigned_second}
use Rattle.block.proofs.packed_starts.packed_start.Goals as goal

pub returns-then-n-eq0 : goal.returns-then-n-eq0
returns-then-n-eq0 c =
    let packed = c.args.packed.now in
    let at = c.args.n * 3 / 2 in
    let place : 8 * at ≡ 12 * c.args.n = omega (arith, c.if-n-eq0.true) in
    let first : get_or packed at 0 < 256 = search rules in
    let second : get_or packed (at + 1) 0 < 256 = search rules in
    ap (λ (word : ℕ). word / 16) c.from_be_bytes-word.ensures
    ∙ sym (unsigned_first packed at first second) ∙ ap (λ (from : ℕ). unsigned packed from 12) place

pub returns-else-n-eq0 : goal.returns-else-n-eq0
returns-else-n-eq0 c =
    let packed = c.args.packed.now in
    let at = c.args.n * 3 / 2 in
    let place : 8 * at + 4 ≡ 12 * c.args.n = omega (arith, c.if-n-eq0.false) in
    let second : get_or packed (at + 1) 0 < 256 = search rules in
    ap (λ (word : ℕ). word % 4096) c.from_be_bytes-word.ensures
    ∙ sym (unsigned_second packed at second) ∙ ap (λ (from : ℕ). unsigned packed from 12) place
