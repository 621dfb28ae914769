use Rattle.std.proofs.Common.{get_or, take, replicate, sym, refl, ap, ◌∙◌, take_all}
use Rattle.std.proofs.lemmas.List.{take_more}
use Rattle.gf.specs.Bits.{bits}
use Rattle.gf.specs.Fields.{gf2}
use Rattle.codes.specs.Division.{remainder_of}
use Rattle.block.specs.Checks.{covered, meanings}
use Rattle.block.proofs.Dividing.{covered_none, covered_next}
use Rattle.block.proofs.checks.CyclicCheck.remainder.Goals as goal

pub loop-byte-init : goal.loop-byte-init
loop-byte-init c =
    let start = replicate 16 (bits 1 c.args.self.now.start.0) in
    covered_none start (meanings c.args.self.now.generator) refl c.args.self.now.admits

pub loop-byte-preserved : goal.loop-byte-preserved
loop-byte-preserved c =
    let start = replicate 16 (bits 1 c.args.self.now.start.0) in
    let generator = meanings c.args.self.now.generator in
    let bytes = c.args.bytes.now in
    let i = c.loop-byte.byte-index in
    c.take_in.ensures
    ∙ covered_next start generator refl c.args.self.now.admits (take i bytes) (get_or bytes i 0) (meanings c.loop-byte.register) c.loop-byte.invariant
    ∙ ap (λ bs. remainder_of gf2 (covered start bs) generator) (sym (take_more bytes i 0 c.loop-byte-test.true))

pub returns : goal.returns
returns c =
    let start = replicate 16 (bits 1 c.args.self.now.start.0) in
    let generator = meanings c.args.self.now.generator in
    c.loop-byte.invariant
    ∙ ap (λ bs. remainder_of gf2 (covered start bs) generator) (take_all c.loop-byte.byte-index c.args.bytes.now c.loop-byte-test.false)
