use Rattle.std.proofs.Common.{◌≡◌, drop, map}
use Rattle.std.specs.List.{list_any}
use Rattle.core_model.specs.Uncovered.{is_other_instruction}
use Rattle.core_syntax.specs.Fields.{instruction_of}
use Rattle.core_syntax.proofs.uncovered.other_in_body.Given as goal

-- what is left decides
abbrev pub invariant-loop-instruction : goal.invariant-loop-instruction
invariant-loop-instruction l = list_any is_other_instruction (map instruction_of (drop l.instruction-index l.body.instrs.items)) ≡ list_any is_other_instruction (map instruction_of l.body.instrs.items)
