use Rattle.std.proofs.Common.{ap, sym, ◌∙◌}
use Rattle.comp_model.specs.Origins.{outer_alias_of, export_step}
use Rattle.comp_scopes.specs.Form.{make, alias_node, step_node}
use Rattle.comp_tree.proofs.Outcomes.{of-ok}
use Rattle.tree_names.specs.Generated.{generated_made}
use Rattle.tree_resolve.specs.Made.{number_in}
use Rattle.tree_resolve.proofs.alias.alias_def.Goals as goal

pub returns-in-Outer-clause-made : goal.returns-in-Outer-clause-made
returns-in-Outer-clause-made c = of-ok _ _ c.outer_def.result
    (λ d h C e. h C e ∙ ap (λ u. make (outer_alias_of c.args.definition u) (alias_node c.in-Outer.depth c.in-Outer.space c.in-Outer.index)) c.number_in-number.ensures ∙ sym (ap (generated_made (number_in c.args.places.now) c.args.definition) c.in-Outer.is))
    c.outer_def.ensures.made

pub returns-in-Step-clause-made : goal.returns-in-Step-clause-made
returns-in-Step-clause-made c = of-ok _ _ c.step_def.result
    (λ d h C e. h C e ∙ ap (λ u. make (export_step c.args.definition u c.in-Step.step) (step_node c.in-Step.index c.in-Step.name.now c.in-Step.space)) c.number_in-number-in-Step.ensures ∙ sym (ap (generated_made (number_in c.args.places.now) c.args.definition) c.in-Step.is))
    c.step_def.ensures.made
