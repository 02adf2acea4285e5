use Rattle.std.proofs.Common.{◌≡◌, ◌++◌, ℕ, List, Option, Some, drop, map, flat_map}
use Rattle.core_model.specs.Rule.{first_broken, unknown_in_instruction}
use Rattle.core_syntax.specs.Fields.{instruction_of}
use Rattle.core_names.specs.ModuleIds.{place_in_instruction}
use Rattle.core_checks.proofs.instructions.check_body.Given as goal

-- what is left decides, and completes the places
abbrev pub invariant-loop-instruction : goal.invariant-loop-instruction
invariant-loop-instruction l = record {
  left : first_broken (map (unknown_in_instruction l.scope l.locals) (map instruction_of (drop l.instruction-index l.body.instrs.items))) ≡ first_broken (map (unknown_in_instruction l.scope l.locals) (map instruction_of l.body.instrs.items));
  found : (behind : List (Option ℕ)) → map Some l.places.items ++ (flat_map (place_in_instruction l.scope l.locals) (map instruction_of (drop l.instruction-index l.body.instrs.items)) ++ behind)
      ≡ map Some l.initial.places.items ++ (flat_map (place_in_instruction l.scope l.locals) (map instruction_of l.body.instrs.items) ++ behind);
}
