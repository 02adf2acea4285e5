use Rattle.std.proofs.Common.{◌≡◌, ◌-◌, ◌≤◌}
use Rattle.print_table.specs.TextOf.{results_tokens}
use Rattle.tree_print.specs.Taken.{taken, put}
use Rattle.tree_print.proofs.printer.Printer.put_each_result.Given as goal

abbrev pub invariant-loop : goal.invariant-loop
invariant-loop l = (l.counter ≤ l.count) × (put (results_tokens (l.count - l.counter)) (taken l.self) ≡ put (results_tokens l.count) (taken l.initial.self))
