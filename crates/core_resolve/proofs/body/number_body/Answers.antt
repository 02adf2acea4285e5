use Rattle.std.proofs.Common.{rules, ◌++◌, map, flat_map, sym, ◌∙◌, ap}
use Rattle.std.proofs.lemmas.List.{with_items_is, places}
use Rattle.core_model.specs.Resolved.{numbered_instruction}
use Rattle.core_syntax.specs.Fields.{instruction_of}
use Rattle.core_names.specs.ModuleIds.{place_in_instruction}
use Rattle.core_resolve.specs.LocalIds.{behind_nameless}
use Rattle.core_resolve.proofs.body.number_body.Goals as goal

pub returns-clause-numbered : goal.returns-clause-numbered
returns-clause-numbered c = λ source ids rest fits e.
    ap (map instruction_of) (with_items_is c.args.body.now.instrs c.number_instructions.new.instructions (search (rules, places)))
    ∙ c.number_instructions.ensures.numbered source ids rest fits (e ∙ ap (λ xs. flat_map (place_in_instruction source ids) (map instruction_of xs) ++ rest) (sym c.as_mut_slice.ensures.value))
    ∙ ap (λ xs. map (numbered_instruction source (behind_nameless c.args.nameless ids)) (map instruction_of xs)) c.as_mut_slice.ensures.value

pub returns-clause-left : goal.returns-clause-left
returns-clause-left c = λ source ids rest e.
    c.number_instructions.ensures.left source ids rest (e ∙ ap (λ xs. flat_map (place_in_instruction source ids) (map instruction_of xs) ++ rest) (sym c.as_mut_slice.ensures.value))
