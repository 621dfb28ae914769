use Rattle.std.proofs.Common.{◌≡◌, ℕ, ◌-◌, length, map, refl, ap, ◌∙◌, rules}
use lib.ListN.{length-map}
use Rattle.gf.specs.Bits.{bits, zeros, equal}
use Rattle.gf.specs.Fields.{gf2}
use Rattle.block.specs.Checks.{binary, meanings}
use Rattle.block.proofs.Packing.{complement}
use Rattle.block.proofs.checks.unit_check.Goals as goal

pub invariant_of-remainder : goal.invariant_of-remainder
unfolding bits equal
invariant_of-remainder c = record { admits = refl }

pub returns : goal.returns
unfolding bits zeros
returns c =
    let symbols = c.remainder.result in
    let long : length symbols ≡ 16 = search rules in
    ap (λ (n : ℕ). 65535 - n) c.word_of.ensures ∙ complement (meanings symbols) (length-map symbols (λ s. bits 1 s.0) ∙ long)
    ∙ ap (λ p. binary 0 (map (gf2.add gf2.one) p)) c.remainder.ensures
