use Rattle.std.proofs.Common.{◌≡◌, drop, map}
use Rattle.std.specs.List.{list_all}
use Rattle.core_model.specs.IsResolved.{instruction_resolved}
use Rattle.core_syntax.specs.Fields.{instruction_of}
use Rattle.core_syntax.proofs.resolved.is_body_resolved.Given as goal

-- what is left decides
abbrev pub invariant-loop-instruction : goal.invariant-loop-instruction
invariant-loop-instruction l = list_all instruction_resolved (map instruction_of (drop l.instruction-index l.body.instrs.items)) ≡ list_all instruction_resolved (map instruction_of l.body.instrs.items)
