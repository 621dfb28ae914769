use Rattle.std.proofs.Common.{◌≡◌, take}
use Rattle.block.specs.Checks.{binary, meanings}
use Rattle.block.proofs.checks.word_of.Given as goal

abbrev pub invariant-loop-symbol : goal.invariant-loop-symbol
invariant-loop-symbol l = l.word ≡ binary 0 (meanings (take l.symbol-index l.symbols))
