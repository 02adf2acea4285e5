use Rattle.std.proofs.Common.{[], ◌∙◌, sym, ap}
use Rattle.comp_expanded.specs.ListMarks.{origins_in}
use Rattle.comp_tree.specs.OriginMarks.{without_places}
use Rattle.comp_tree.proofs.OriginMarks.{shown_origins, placeless_origins}
use Rattle.comp_tree.proofs.Outcomes.{of-ok}
use Rattle.tree_resolve.specs.Planned.{planned_of}
use Rattle.tree_resolve.proofs.origins.planned_origins.Goals as goal

pub returns-clause-plan : goal.returns-clause-plan
returns-clause-plan c = λ C. of-ok _ _ c.scope_plan.result (λ a h. sym (shown_origins a) ∙ ap origins_in h ∙ placeless_origins (planned_of C c.args.scope.now)) (c.scope_plan.ensures C)

pub returns-clause-places : goal.returns-clause-places
returns-clause-places c = of-ok _ _ c.scope_plan.result (λ a h. h ∙ ap without_places (sym (sym (shown_origins a) ∙ ap origins_in h ∙ placeless_origins (planned_of [] c.args.scope.now)))) (c.scope_plan.ensures [])
