use Rattle.std.proofs.Common.{ap, ◌∙◌, arith}
use Rattle.comp_wire.specs.Values.{rows_of_list}
use Rattle.item_read.specs.Named.{named_row}
use Rattle.item_read.specs.Rows.{IsNamedItem}
use Rattle.item_read.proofs.ListRows.{turn, all_rows, one_of_all}
use Rattle.item_read.proofs.NamedEntries.{named_entry}
use Rattle.item_read.proofs.named.all_named.Goals as goal

pub named_item-requires : goal.named_item-requires
named_item-requires c = (one_of_all (IsNamedItem c.requires.0) _ c.args.nodes.now c.loop-node.node-index c.requires.1 c.loop-node-test.true).1

pub loop-node-preserved : goal.loop-node-preserved
loop-node-preserved c = λ r h.
    turn (named_row r) _ _ c.named_item.result c.args.nodes.now c.loop-node.node-index _ c.loop-node-test.true c.in_ok-push.ensures.items
    (named_entry _ c.args.nodes.now c.loop-node.node-index r _ h c.loop-node-test.true c.named_item.ensures)
    (c.loop-node.invariant r h)

pub returns : goal.returns
returns c = λ r h. ap (rows_of_list (named_row r)) c.from_vec.ensures.same_items ∙ all_rows (named_row r) _ c.args.nodes.now c.loop-node.node-index (omega (arith, c.loop-node-test.false)) (c.loop-node.invariant r h)
