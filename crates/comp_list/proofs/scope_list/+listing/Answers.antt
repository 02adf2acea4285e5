use Rattle.std.proofs.Common.{rules, ◌≡◌, ◌++◌, sym, subst, OnOk, arith}
use Rattle.std.proofs.lemmas.List.{get_or_read}
use borrow.Author.Tests.{tests}
use Rattle.wire_tree.specs.declared.tree.Leaf.{the_lemmas}
use Rattle.comp_list.specs.Open.{scopes_of}
use Rattle.comp_list.proofs.Parts.{node_lines, list_lines, scope_inside, node_fits, list_fits, defs_fit}
use Rattle.comp_list.proofs.SpotRoom.{rows_turn}
use Rattle.comp_list.proofs.scope_list.+listing.Goals as goal

pub push_leaf-returns-in-Node : goal.push_leaf-returns-in-Node
push_leaf-returns-in-Node t c = λ found. subst (λ q. OnOk c.push_leaves.result (c.push_leaves.new.lines.items ≡ c.args.lines.now.items ++ q)) (sym (node_lines c.args.level (scopes_of c.args.around) _ _ c.in-Node.is)) (c.push_leaves.ensures found)

pub push_leaf-returns-in-Nodes : goal.push_leaf-returns-in-Nodes
push_leaf-returns-in-Nodes t c = λ found. subst (λ q. OnOk c.push_nodes.result (c.push_nodes.new.lines.items ≡ c.args.lines.now.items ++ q)) (sym (list_lines c.args.level (scopes_of c.args.around) _ _ c.in-Nodes.is)) (c.push_nodes.ensures found)

pub push_scope-returns : goal.push_scope-returns
push_scope-returns t c = λ found. subst (λ q. OnOk c.push_defs.result (c.push_defs.new.lines.items ≡ c.args.lines.now.items ++ q)) (sym (scope_inside c.args.level (scopes_of c.args.around) c.args.scope.now)) (c.push_defs.ensures (c.in_ok-spots.ensures, found))

pub push_leaf-push_leaves-requires : goal.push_leaf-push_leaves-requires
push_leaf-push_leaves-requires t c = (search (tests, rules, the_lemmas, get_or_read, c.well_formed), (node_fits c.args.level c.args.leaf.now c.in-Node.node c.in-Node.is c.requires.room, c.requires.depth))

pub push_leaf-push_nodes-requires : goal.push_leaf-push_nodes-requires
push_leaf-push_nodes-requires t c = (search (tests, rules, the_lemmas, get_or_read, c.well_formed), (list_fits c.args.level c.args.leaf.now c.in-Nodes.nodes c.in-Nodes.is c.requires.room, c.requires.depth))

pub push_defs-push_def-requires : goal.push_defs-push_def-requires
push_defs-push_def-requires t c =
    let turn = rows_turn c.args.defs.now c.loop-node.node-index _ c.args.level c.loop-node.def c.loop-node-test.true c.loop-node.invariant.0 in
    (search (tests, rules, the_lemmas, get_or_read, c.well_formed), ((turn.0, turn.1), c.requires.depth))

pub push_scope-spots_of-requires : goal.push_scope-spots_of-requires
push_scope-spots_of-requires t c = record { few = (c.args.level, defs_fit c.args.level c.args.scope.now c.requires.room) }

pub push_scope-push_defs-requires : goal.push_scope-push_defs-requires
push_scope-push_defs-requires t c =
    (search (tests, rules, the_lemmas, get_or_read, c.well_formed), (defs_fit c.args.level c.args.scope.now c.requires.room, omega (arith, c.requires.depth)))
