use Rattle.std.proofs.Common.{ap, sym, ◌∙◌}
use Rattle.comp_model.specs.Model as m
use Rattle.item_read.specs.Rows.{IsNamedItem}
use Rattle.item_read.proofs.Held.{nodes_held, list_held, weaken}
use Rattle.item_read.proofs.named.named_items.Goals as goal

pub all_named-requires : goal.all_named-requires
all_named-requires c = (c.requires.0, list_held (IsNamedItem c.requires.0) c.args.leaf.now c.in-Nodes.nodes c.in-Nodes.is c.requires.1)

pub returns : goal.returns
returns c = λ r h.
    weaken _ _ c.all_named.result (λ v e. ap m.nodes e ∙ sym (nodes_held c.args.leaf.now c.in-Nodes.nodes c.in-Nodes.is))
    (c.all_named.ensures r (list_held (IsNamedItem r) c.args.leaf.now c.in-Nodes.nodes c.in-Nodes.is h))
