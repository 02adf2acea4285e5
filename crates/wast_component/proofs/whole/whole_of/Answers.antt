use Rattle.std.proofs.Common.{◌∙◌, sym}
use Rattle.comp_tree.specs.Model.{names_at}
use Rattle.comp_tree.specs.Lists.{node_leaves}
use Rattle.wast_component.proofs.Alone.{other_row, other_leaves}
use Rattle.wast_component.proofs.whole.whole_of.Goals as goal
use Rattle.wast_component.proofs.whole.whole_of.Goals.{else-is_component-via-then-is_component+else-def-eq1, else-is_component-via-else-is_component}

pub returns-else-is_component : goal.returns-else-is_component
returns-else-is_component c =
    let d = c.args.def.now in
    elim c.else-is_component.branch [
      | else-is_component-via-then-is_component+else-def-eq1 w ↦ λ cores. other_leaves cores (names_at d.span.offset d.names.now) d.node.row d.node.leaves.now (λ h. w.if-def-eq1.false h)
      | else-is_component-via-else-is_component w ↦ λ cores. other_row (names_at d.span.offset d.names.now) d.node.row (node_leaves cores d.node) (sym c.is_component.ensures ∙ w.if-is_component.false)
    ]
