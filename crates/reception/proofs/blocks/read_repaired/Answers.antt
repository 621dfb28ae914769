-- The header that was read is the block's, and so are its units.
use Rattle.std.proofs.Common.{◌*◌, Ok, sym, ap, ◌∙◌}
use Rattle.block.specs.declared.header.Header.{Header}
use Rattle.block.proofs.HeaderParts.{right_from}
use Rattle.reception.specs.Blocks.{states_of_units}
use Rattle.reception.proofs.blocks.read_repaired.Goals as goal

pub unit_states-requires : goal.unit_states-requires
unit_states-requires c =
    let r = right_from c.args.repaired.size c.args.block.now c.in_ok-opened.opened.header c.in_ok-opened.ensures.opens in
    r.0.long ∙ ap (λ (h : Header). 120 * h.size) (sym r.1)

pub returns : goal.returns
returns c received repaired = record {
  repaired = repaired;
  header_is = c.in_ok-opened.ensures.opens ∙ ap Ok (sym c.header.ensures);
  units_are = c.unit_states.ensures ∙ ap (λ (h : Header). states_of_units h c.args.block.now) (sym c.header.ensures);
}
