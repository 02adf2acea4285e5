use Rattle.std.proofs.Common.{◌≡◌, ◌++◌, drop, string_bytes}
use Rattle.list_lines.specs.Lines.{list_lines}
use Rattle.list_lines.proofs.print.list_lines.Given as goal

abbrev pub invariant-loop-line : goal.invariant-loop-line
invariant-loop-line l = string_bytes l.out ++ list_lines (drop l.line-index l.lines) ≡ list_lines l.lines
