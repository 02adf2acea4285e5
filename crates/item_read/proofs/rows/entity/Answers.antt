use Rattle.std.proofs.Common.{ap, sym, ◌∙◌}
use Rattle.comp_model.specs.Model as m
use Rattle.item_read.specs.Rows.{IsEntity}
use Rattle.item_read.proofs.Held.{node_held, row_held}
use Rattle.item_read.proofs.rows.entity.Goals as goal

pub entity_of-requires : goal.entity_of-requires
entity_of-requires c = row_held IsEntity c.args.leaf.now c.in-Node.node c.in-Node.is c.requires

pub returns : goal.returns
returns c = ap m.node c.entity_of.ensures ∙ sym (node_held c.args.leaf.now c.in-Node.node c.in-Node.is)
