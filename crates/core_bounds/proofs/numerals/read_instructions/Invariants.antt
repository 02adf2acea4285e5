use Rattle.std.proofs.Common.{map, drop}
use Rattle.core_model.specs.Words.{BodyWord}
use Rattle.core_syntax.specs.Fields.{instruction_of}
use Rattle.core_bounds.proofs.numerals.read_instructions.Given as goal

-- where those that are left are words, all are
abbrev pub invariant-loop-instruction : goal.invariant-loop-instruction
invariant-loop-instruction l = BodyWord (map instruction_of (drop l.instruction-index l.instructions)) → BodyWord (map instruction_of l.instructions)
