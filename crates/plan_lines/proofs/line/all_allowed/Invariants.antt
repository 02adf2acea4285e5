use Rattle.std.proofs.Common.{◌≡◌, drop}
use Rattle.std.specs.List.{list_all}
use Rattle.plan_lines.specs.Shown.{test_of}
use Rattle.plan_lines.proofs.line.all_allowed.Given as goal

abbrev pub invariant-loop-byte : goal.invariant-loop-byte
invariant-loop-byte l = list_all (test_of l.kind) (drop l.byte-index l.bytes) ≡ list_all (test_of l.kind) l.bytes
