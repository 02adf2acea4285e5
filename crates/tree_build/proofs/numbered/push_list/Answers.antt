use Rattle.std.proofs.Common.{◌∙◌}
use Rattle.comp_tree.specs.declared.tree.Leaf as l
use Rattle.tree_build.specs.Held.{loose}
use Rattle.tree_build.proofs.Numbering.{one_more, nodes_leaf}
use Rattle.tree_build.proofs.numbered.push_list.Goals as goal

pub returns-in-Ok : goal.returns-in-Ok
returns-in-Ok c = λ fs cs. one_more (loose fs cs) c.args.leaves.now.items c.push.new.self.items (l.Nodes c.in_ok-placed.placed) _ c.in-Ok.ensures.items
    (nodes_leaf cs c.in_ok-placed.placed c.in_ok-entries.entries.items _ (c.in_ok-placed.ensures ∙ c.deref.ensures.value) (c.in_ok-entries.ensures cs))
