use Rattle.std.proofs.Common.{sym, ◌∙◌}
use Rattle.comp_tree.proofs.Outcomes.{of-ok}
use Rattle.tree_resolve.proofs.NamedItems.{component-named, items-named, type-nameless}
use Rattle.tree_resolve.proofs.naming.needs_section.Goals as goal

pub returns-then-has_name : goal.returns-then-has_name
returns-then-has_name c = λ C. component-named C c.args.scope.now c.in-Component.is (sym c.has_name.ensures ∙ c.if-has_name.true)

pub returns-else-has_name : goal.returns-else-has_name
returns-else-has_name c = λ C. of-ok _ _ c.name_items.result (λ due h. h ∙ items-named C c.args.scope.now c.in-Component.is (sym c.has_name.ensures ∙ c.if-has_name.false)) (c.name_items.ensures C)

pub returns-in_default : goal.returns-in_default
returns-in_default c = λ C. type-nameless C c.args.scope.now c.in_default.not-Component
