use Rattle.std.proofs.Common.{◌≡◌, [], ◌++◌, drop, map, flat_map}
use Rattle.core_model.specs.Bytes.{instruction_bytes}
use Rattle.core_syntax.specs.Fields.{instruction_of}
use Rattle.core_write.proofs.instructions.push_expression.Given as goal

-- what is left completes the list
abbrev pub invariant-loop-instruction : goal.invariant-loop-instruction
invariant-loop-instruction l =
    l.out.items ++ flat_map (instruction_bytes [] []) (map instruction_of (drop l.instruction-index l.body.instrs.items))
    ≡ l.initial.out.items ++ flat_map (instruction_bytes [] []) (map instruction_of l.body.instrs.items)
