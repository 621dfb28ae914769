use Rattle.std.proofs.Common.{◌≡◌, ℕ, zero, suc, ◌-◌, ◌*◌, ◌/◌, ◌%◌, ◌^◌, ◌<◌, sym, ap, ◌∙◌, arith}
use Rattle.block.proofs.PackedStarts.{digit_of, get_or-digits}
use Rattle.block.proofs.packed_starts.digit.Goals as goal

shifted : (n r : ℕ) → n < 4096 → r < 3 → n / 2 ^ (8 - 4 * r) % 16 ≡ digit_of n r
shifted n zero h k = let e : n / 256 % 16 ≡ n / 256 = omega arith in e
shifted n (suc zero) h k = let e : n / 16 % 16 ≡ n / 16 % 16 = omega arith in e
shifted n (suc (suc zero)) h k = let e : n / 1 % 16 ≡ n % 16 = omega arith in e
shifted n (suc (suc (suc r))) h k = absurd (omega arith)

pub returns-clause-value : goal.returns-clause-value
returns-clause-value c =
    let numbers = c.args.numbers.now in
    let n = c.number_at-number.result in
    let low : n < 4096 = omega (arith, c.number_at-number.ensures, c.requires (c.args.k / 3)) in
    shifted n (c.args.k % 3) low (omega arith)
    ∙ ap (λ (m : ℕ). digit_of m (c.args.k % 3)) c.number_at-number.ensures ∙ sym (get_or-digits numbers c.args.k)
