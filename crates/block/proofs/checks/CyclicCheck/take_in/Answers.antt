use Rattle.std.proofs.Common.{◌++◌, replicate, ap, ◌∙◌, ap₂}
use Rattle.gf.specs.Bits.{bits}
use Rattle.gf.specs.Fields.{gf2}
use Rattle.gf.specs.declared.gf2.Gf2.{Gf2}
use Rattle.gf.specs.laws.Numbers.{bits-zero}
use Rattle.codes.specs.Division.{remainder_of, admitted}
use Rattle.codes.proofs.Answering.{answered_value}
use Rattle.block.specs.Checks.{meanings}
use Rattle.block.proofs.checks.CyclicCheck.take_in.Goals as goal

pub returns : goal.returns
returns c =
    let generator = meanings c.args.self.now.generator in
    let register = c.add_byte.new.register in
    let mean : Gf2 → _ = λ s. bits 1 s.0 in
    answered_value gf2 mean (meanings register ++ replicate 8 (bits 1 0)) c.args.self.now.generator c.continue_remainder.result
    register c.continue_remainder.new.rest c.continue_remainder.ensures (ap (admitted gf2 generator) c.add_byte.array_long ∙ c.args.self.now.admits)
    ∙ ap₂ (λ r z. remainder_of gf2 (r ++ replicate 8 z) generator) c.add_byte.ensures (bits-zero 1)
