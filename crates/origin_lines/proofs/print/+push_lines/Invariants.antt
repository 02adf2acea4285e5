use Rattle.std.proofs.Common.{◌≡◌, ◌++◌, drop, string_bytes}
use Rattle.comp_wire.specs.Origins.{origins_of_list}
use Rattle.origin_lines.specs.Lines.{lines_behind}
use Rattle.origin_lines.proofs.print.+push_lines.Given as goal

abbrev pub invariant-loop-item : goal.invariant-loop-item
invariant-loop-item l = string_bytes l.out ++ lines_behind l.indent (origins_of_list (drop l.item-index l.item-items)) ≡ string_bytes l.fn.out ++ lines_behind l.indent (origins_of_list l.item-items)
