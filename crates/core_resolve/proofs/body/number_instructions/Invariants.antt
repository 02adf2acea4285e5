use Rattle.std.proofs.Common.{◌≡◌, ◌++◌, ℕ, List, Option, Some, map, flat_map, drop}
use Rattle.comp_model.specs.Core.{Id}
use Rattle.comp_model.specs.CoreModules.{Field}
use Rattle.core_model.specs.Resolved.{numbered_instruction}
use Rattle.core_syntax.specs.Fields.{instruction_of}
use Rattle.core_names.specs.ModuleIds.{place_in_instruction}
use Rattle.core_resolve.specs.LocalIds.{behind_nameless, FitsBehind}
use Rattle.core_resolve.proofs.Changed.{changed_from}
use Rattle.core_resolve.proofs.body.number_instructions.Given as goal

-- what is left completes the change, and has the places that are left
abbrev pub invariant-loop-instruction : goal.invariant-loop-instruction
invariant-loop-instruction l = record {
  changed : (source : List Field) (ids : List (Option Id)) (rest : List (Option ℕ)) → FitsBehind l.nameless ids → map Some l.places ≡ flat_map (place_in_instruction source ids) (map instruction_of l.initial.instructions) ++ rest
      → changed_from instruction_of (numbered_instruction source (behind_nameless l.nameless ids)) l.instruction-index l.instructions ≡ map (numbered_instruction source (behind_nameless l.nameless ids)) (map instruction_of l.initial.instructions);
  left : (source : List Field) (ids : List (Option Id)) (rest : List (Option ℕ)) → map Some l.places ≡ flat_map (place_in_instruction source ids) (map instruction_of l.initial.instructions) ++ rest
      → map Some l.left ≡ flat_map (place_in_instruction source ids) (map instruction_of (drop l.instruction-index l.instructions)) ++ rest;
}
