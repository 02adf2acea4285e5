use Rattle.std.proofs.Common.{ap, sym, ◌∙◌}
use Rattle.comp_model.specs.Model as m
use Rattle.item_read.specs.Rows.{IsDescription}
use Rattle.item_read.proofs.Held.{node_held, row_held}
use Rattle.item_read.proofs.rows.description.Goals as goal

pub description_of-requires : goal.description_of-requires
description_of-requires c = row_held IsDescription c.args.leaf.now c.in-Node.node c.in-Node.is c.requires

pub returns : goal.returns
returns c = ap m.node c.description_of.ensures ∙ sym (node_held c.args.leaf.now c.in-Node.node c.in-Node.is)
