use Rattle.std.proofs.Common.{◌<◌, ◌≤◌, ◌+◌, ◌++◌, length, map, flat_map, drop, sym, ◌∙◌, ap, arith}
use Rattle.core_model.specs.Resolved.{numbered_instruction}
use Rattle.core_syntax.specs.Fields.{instruction_of}
use Rattle.core_names.specs.ModuleIds.{place_in_instruction}
use Rattle.core_resolve.specs.LocalIds.{behind_nameless}
use Rattle.core_resolve.proofs.Changed.{changed-turn, changed-end}
use Rattle.core_resolve.proofs.PlacesLeft.{next-places, later-places, none-left}
use Rattle.core_resolve.proofs.body.number_instructions.Goals as goal

pub loop-instruction-preserved : goal.loop-instruction-preserved
loop-instruction-preserved c =
    let below : c.loop-instruction.instruction-index < length c.loop-instruction.instructions = omega arith in
    let i = c.loop-instruction.instruction-index in
    let xs = c.loop-instruction.instructions in
    record {
      changed = λ source ids rest fits e.
          changed-turn instruction_of (numbered_instruction source (behind_nameless c.args.nameless ids)) i xs _ _ below
          (c.number_instruction-left.ensures.numbered source ids (flat_map (place_in_instruction source ids) (map instruction_of (drop (i + 1) xs)) ++ rest) fits
          (next-places (place_in_instruction source ids) instruction_of i xs rest _ _ below (c.loop-instruction.invariant.left source ids rest e)))
          ∙ c.loop-instruction.invariant.changed source ids rest fits e;
      left = λ source ids rest e.
          c.number_instruction-left.ensures.left source ids (flat_map (place_in_instruction source ids) (map instruction_of (drop (i + 1) xs)) ++ rest)
          (next-places (place_in_instruction source ids) instruction_of i xs rest _ _ below (c.loop-instruction.invariant.left source ids rest e))
          ∙ ap (λ ys. ys ++ rest) (later-places (place_in_instruction source ids) instruction_of i xs c.number_instruction-left.new.instruction);
    }

pub returns-clause-numbered : goal.returns-clause-numbered
returns-clause-numbered c = λ source ids rest fits e.
    let end : length c.loop-instruction.instructions ≤ c.loop-instruction.instruction-index = omega arith in
    sym (changed-end instruction_of (numbered_instruction source (behind_nameless c.args.nameless ids)) c.loop-instruction.instruction-index c.loop-instruction.instructions end)
    ∙ c.loop-instruction.invariant.changed source ids rest fits e

pub returns-clause-left : goal.returns-clause-left
returns-clause-left c = λ source ids rest e.
    let end : length c.loop-instruction.instructions ≤ c.loop-instruction.instruction-index = omega arith in
    c.loop-instruction.invariant.left source ids rest e ∙ none-left (place_in_instruction source ids) instruction_of c.loop-instruction.instruction-index c.loop-instruction.instructions rest end
