use Rattle.block.proofs.Sealing.{fill}
use Rattle.block.proofs.writer.OpenWriter.seal.Goals as goal

pub returns : goal.returns
returns c =
    let w = c.args.self in
    let b = c.args.block.now in
    let checked = c.in_default.ensures in
    (checked.0, (c.write_all.ensures.size, fill w b checked.1, c.write_all.ensures.block))
