use Rattle.std.proofs.Common.{◌≡◌, ◌++◌, drop}
use Rattle.comp_wire.specs.Values.{rows_of_list, function_row}
use Rattle.comp_list.specs.References.{node_references}
use Rattle.comp_list.proofs.item_references.push_functions.Given as goal

abbrev pub invariant-loop-function : goal.invariant-loop-function
invariant-loop-function l = l.found.items ++ node_references (rows_of_list function_row (drop l.function-index l.functions)) ≡ l.initial.found.items ++ node_references (rows_of_list function_row l.functions)
