use Rattle.std.proofs.Common.{arith}
use Rattle.comp_list.proofs.Opens.{led_by_few}
use Rattle.comp_list.proofs.alias.alias_of_node.Goals as goal

pub returns-then-node-lt2 : goal.returns-then-node-lt2
returns-then-node-lt2 c = λ scopes up. led_by_few scopes up c.args.node.now (omega (arith, c.if-node-lt2.true))
