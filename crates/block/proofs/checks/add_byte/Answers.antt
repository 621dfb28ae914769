use Rattle.std.proofs.Common.{◌≡◌, length, get_or, set, sym, ap, ◌∙◌, ap₂, arith, length-set}
use lib.ListN.{length-map}
use lib.Seq.{map-set}
use Rattle.std.proofs.lemmas.List.{get_or-map}
use Rattle.gf.specs.Bits.{bits, plus}
use Rattle.gf.specs.Fields.{gf2}
use Rattle.gf.specs.declared.gf2.Gf2.{Gf2}
use Rattle.codes.specs.Polynomials.{over}
use Rattle.codes.proofs.Registers.{advance, get_or_over}
use Rattle.block.specs.Checks.{byte_bits, meanings}
use Rattle.block.proofs.Dividing.{ahead_here, sum-written, length-byte, length-sum}
use Rattle.block.proofs.checks.add_byte.Goals as goal

pub loop-place-preserved : goal.loop-place-preserved
loop-place-preserved c =
    let i = c.loop-place.place in
    let mean : Gf2 → _ = λ s. bits 1 s.0 in
    let old = meanings c.args.register.now in
    let byte = byte_bits c.args.byte in
    let new = over gf2 old byte in
    let long : length old ≡ 16 = omega (arith, length-map c.args.register.now mean) in
    let sized : length new ≡ length old = length-sum old byte (omega (arith, length-byte c.args.byte)) in (
      omega (arith, length-set c.loop-place.register i c.add.result, c.loop-place.invariant.0),
      map-set mean c.loop-place.register i c.add.result
          ∙ ap₂ (λ xs x. set xs i x) c.loop-place.invariant.1
          (c.add.ensures
          ∙ ap₂ (plus 1)
          (sym (get_or-map mean c.loop-place.register i (record { 0 = 0 }) gf2.zero (omega (arith, c.loop-place.invariant.0)))
          ∙ ap (λ xs. get_or xs i gf2.zero) c.loop-place.invariant.1 ∙ ahead_here new old i sized (omega arith))
          (sym (get_or-map mean c.bits_of.result i (record { 0 = 0 }) gf2.zero (omega (arith, length-map c.bits_of.result mean, ap length c.bits_of.ensures, length-byte c.args.byte)))
          ∙ ap (λ xs. get_or xs i gf2.zero) c.bits_of.ensures)
          ∙ sym (get_or_over gf2 old byte i (omega arith) (omega (arith, length-byte c.args.byte))))
          ∙ advance gf2.zero new old i sized (omega arith),
    )

pub returns : goal.returns
returns c =
    let old = meanings c.args.register.now in
    let byte = byte_bits c.args.byte in
    let long : length old ≡ 16 = omega (arith, length-map c.args.register.now (λ s. bits 1 s.0)) in
    c.loop-place.invariant.1
    ∙ sum-written old byte c.loop-place.place (omega (arith, length-byte c.args.byte)) (omega arith)
