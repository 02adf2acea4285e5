use Rattle.std.proofs.Common.{◌≡◌, ◌+◌, ◌<◌, ◌^◌, [], drop, map, flat_map, length}
use Rattle.core_model.specs.Bytes.{instruction_bytes}
use Rattle.core_syntax.specs.Fields.{instruction_of}
use Rattle.core_syntax.specs.Measures.{capped}
use Rattle.core_fits.proofs.instructions.instructions_length.Given as goal

-- with what is left it is the whole
abbrev pub invariant-loop-instruction : goal.invariant-loop-instruction
invariant-loop-instruction l = record {
  sum : capped (l.length + length (flat_map (instruction_bytes [] []) (map instruction_of (drop l.instruction-index l.instructions)))) ≡ capped (length (flat_map (instruction_bytes [] []) (map instruction_of l.instructions)));
  within : l.length < 2 ^ 64;
}
