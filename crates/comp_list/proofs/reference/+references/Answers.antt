use Rattle.std.proofs.Common.{◌≡◌, ◌++◌, sym, subst, OnOk}
use Rattle.comp_list.proofs.Parts.{node_found, nodes_found}
use Rattle.comp_list.proofs.reference.+references.Goals as goal

pub push_leaf-returns-in-Node : goal.push_leaf-returns-in-Node
push_leaf-returns-in-Node t c = subst (λ q. OnOk c.push_leaves.result (c.push_leaves.new.found.items ≡ c.args.found.now.items ++ q)) (sym (node_found _ _ c.in-Node.is)) (c.push_leaves.ensures)

pub push_leaf-returns-in-Nodes : goal.push_leaf-returns-in-Nodes
push_leaf-returns-in-Nodes t c = subst (λ q. OnOk c.push_nodes.result (c.push_nodes.new.found.items ≡ c.args.found.now.items ++ q)) (sym (nodes_found _ _ c.in-Nodes.is)) (c.push_nodes.ensures)
