use Rattle.std.proofs.Common.{◌≡◌, Ok, Err, sym, ap, ◌∙◌, ap₂}
use Rattle.std.proofs.lemmas.Result.{err_from_is_err_and}
use Rattle.block.specs.Headers.{header}
use Rattle.block.specs.steps.Reading.{opened}
use Rattle.block.proofs.Refusing.{converted, opened-header}
use Rattle.block.proofs.Tiling.{tiled_answer}
use Rattle.block.proofs.header.read_header.Goals.{After-header}
use Rattle.block.proofs.header.read_header.Goals as goal

value : (c : After-header) → converted c.header.result ≡ header c.args.size c.args.block.now
value c =
    ap converted (c.header.ensures ∙ ap₂ opened c.in_ok-block.ensures.1.0 c.in_ok-block.ensures.1.1)
    ∙ opened-header c.args.size c.args.block.now c.in_ok-block.ensures.0

pub returns-in_err-header-clause-value : goal.returns-in_err-header-clause-value
returns-in_err-header-clause-value c =
    let p = err_from_is_err_and c.from_residual-in_err-header.result c.from_residual-in_err-header.ensures.1 in
    p.1 ∙ ap Err p.2 ∙ ap converted (sym c.in_err-header.was) ∙ value (goal.at.returns-in_err-header-clause-value c).After-header

pub returns-clause-value : goal.returns-clause-value
returns-clause-value c = ap converted (sym c.in_ok-header.was) ∙ value (goal.at.returns-clause-value c).After-header

pub returns-clause-tiles : goal.returns-clause-tiles
returns-clause-tiles c =
    tiled_answer c.args.size c.args.block.now (Ok c.in_ok-header.field-0) (ap converted (sym c.in_ok-header.was) ∙ value (goal.at.returns-clause-tiles c).After-header)
