use Rattle.std.proofs.Common.{◌∙◌, arith}
use Rattle.comp_list.proofs.Opens.{row_led_at, no_row_at, item_led_at, no_item_at}
use Rattle.comp_list.proofs.open.alias_at.Goals as goal

pub returns-then-def-nodes : goal.returns-then-def-nodes
returns-then-def-nodes c = λ scopes up. c.alias_of_node.ensures scopes up ∙ row_led_at scopes up c.args.defs c.args.def c.in-Rows.nodes _ c.in-Rows.is c.if-def-nodes.true

pub returns-then-def-items : goal.returns-then-def-items
returns-then-def-items c = λ scopes up. c.alias_of_item.ensures.led scopes up ∙ item_led_at scopes up c.args.defs c.args.def c.in-Items.items c.index-items-def.result c.in-Items.is c.if-def-items.true c.index-items-def.is

pub returns-else-def-nodes : goal.returns-else-def-nodes
returns-else-def-nodes c = λ scopes up. no_row_at scopes up c.args.defs c.args.def c.in-Rows.nodes c.in-Rows.is (omega (arith, c.if-def-nodes.false))

pub returns-else-def-items : goal.returns-else-def-items
returns-else-def-items c = λ scopes up. no_item_at scopes up c.args.defs c.args.def c.in-Items.items c.in-Items.is (omega (arith, c.if-def-items.false))
