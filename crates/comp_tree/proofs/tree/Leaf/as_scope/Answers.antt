use Rattle.std.proofs.Common.{ap, sym, ◌∙◌}
use Rattle.comp_tree.specs.Access.{scope_in}
use Rattle.comp_tree.specs.Model.{leaf_of}
use Rattle.comp_tree.proofs.Holds.{core_no_scope}
use Rattle.comp_tree.proofs.Leaves.{leaf_scope}
use Rattle.comp_tree.proofs.tree.Leaf.as_scope.Goals as goal

pub returns-in-Scope : goal.returns-in-Scope
returns-in-Scope c = λ cores. sym (ap (λ x. scope_in (leaf_of cores x)) c.in-Scope.is ∙ ap scope_in (leaf_scope cores c.in-Scope.scope))

pub returns-in-Core : goal.returns-in-Core
returns-in-Core c = λ cores. sym (ap (λ x. scope_in (leaf_of cores x)) c.in-Core.is ∙ core_no_scope cores c.in-Core.field-0)
