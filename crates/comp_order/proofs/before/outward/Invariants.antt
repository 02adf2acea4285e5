use Rattle.std.proofs.Common.{List, drop}
use Rattle.comp_model.specs.Model.{Defs}
use Rattle.comp_order.specs.Before.{AllCounted}
use Rattle.comp_order.proofs.Outward.{OutwardFrom}
use Rattle.comp_order.proofs.before.outward.Given as goal

-- what is left of the scopes, whatever they are
abbrev pub invariant-loop-left : goal.invariant-loop-left
invariant-loop-left l = (befores : List Defs) → AllCounted l.around befores → OutwardFrom l.at l.left (drop l.up befores)

abbrev pub decreases-loop-left : goal.decreases-loop-left
decreases-loop-left l = l.left
