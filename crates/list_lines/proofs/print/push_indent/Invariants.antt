use Rattle.std.proofs.Common.{◌≡◌, ◌++◌, ◌-◌, ◌≤◌, string_bytes}
use Rattle.list_lines.specs.Lines.{indent}
use Rattle.list_lines.proofs.print.push_indent.Given as goal

abbrev pub invariant-loop : goal.invariant-loop
invariant-loop l = (l.counter ≤ l.level) × (string_bytes l.out ++ indent (l.level - l.counter) ≡ string_bytes l.initial.out ++ indent l.level)
