use Rattle.std.proofs.Common.{◌∙◌, ap, sym}
use Rattle.comp_tree.specs.Model.{leaf_of}
use Rattle.comp_tree.specs.declared.tree.Leaf.{Leaf}
use Rattle.wast_component.specs.Whole.{of_leaf}
use Rattle.wast_component.proofs.Alone.{core_alone}
use Rattle.wast_component.proofs.whole.component_of.Goals as goal

pub returns-in-Core : goal.returns-in-Core
returns-in-Core c = λ cores. core_alone cores c.in-Core.field-0 c.args.offset ∙ ap (λ (x : Leaf). of_leaf c.args.offset (leaf_of cores x)) (sym c.in-Core.is)
