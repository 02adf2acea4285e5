-- Leaves that hold parts: the verdicts on the lines of the scopes in them.
use Rattle.std.proofs.Common.{◌≡◌, ℕ, ◌+◌, ◌<◌, sym, ap, ◌∙◌, List, length, drop, get_or, map, Ok, Err, Bor}
use Rattle.std.proofs.lemmas.List.{drop_more}
use Rattle.comp_model.specs.Model.{Defs, no_def}
use Rattle.wire_tree.specs.Lists.{listed, nodes_listed, defs_listed}
use Rattle.wire_tree.specs.Model.{leaf_of, scope_of}
use Rattle.wire_tree.specs.declared.tree.Leaf as l
use Rattle.wire_tree.specs.declared.tree.Node.{Node}
use Rattle.wire_tree.specs.declared.tree.Scope.{Scope, out-Scope}
use Rattle.wire_tree.proofs.Leaves.{leaf_node, leaf_nodes, leaf_scope, scope_fields}
use Rattle.comp_list.specs.declared.reference.Reference.{Reference}
use Rattle.comp_list.specs.References.{references, node_references}
use Rattle.comp_order.specs.declared.verdict.Verdict.{Verdict}
use Rattle.comp_order.specs.declared.verdict.Order.{Order}
use Rattle.comp_order.specs.Pass.{pass}
use Rattle.comp_order.proofs.Passing.{passed_on, stopped, passed_more, stopped_more}
use Rattle.comp_order.specs.Order.{leaf_verdicts, leaves_verdicts, nodes_verdicts, scope_verdicts, defs_verdicts}

module _ (befores : List Defs) where
  pub node_held : (x : l.Leaf) (n : Bor Node) → x ≡ l.Node n → leaf_verdicts (leaf_of x) befores ≡ leaves_verdicts (listed n.now.leaves.now) befores
  node_held x n e = ap (λ y. leaf_verdicts (leaf_of y) befores) e ∙ ap (λ y. leaf_verdicts y befores) (leaf_node n)

  pub nodes_held : (x : l.Leaf) (ns : Bor (List Node)) → x ≡ l.Nodes ns → leaf_verdicts (leaf_of x) befores ≡ nodes_verdicts (nodes_listed ns.now) befores
  nodes_held x ns e = ap (λ y. leaf_verdicts (leaf_of y) befores) e ∙ ap (λ y. leaf_verdicts y befores) (leaf_nodes ns)

  pub scope_inside : (x : Scope) → scope_verdicts (scope_of x) befores ≡ defs_verdicts (defs_listed (out-Scope x).defs.now) befores no_def
  scope_inside x = ap (λ s. scope_verdicts s befores) (scope_fields x)

  pub scope_held : (x : l.Leaf) (s : Bor Scope) → x ≡ l.Scope s → leaf_verdicts (leaf_of x) befores ≡ defs_verdicts (defs_listed (out-Scope s.now).defs.now) befores no_def
  scope_held x s e = ap (λ y. leaf_verdicts (leaf_of y) befores) e ∙ ap (λ y. leaf_verdicts y befores) (leaf_scope s) ∙ scope_inside s.now

-- a turn of the loops over nodes, at place i
module _ (v : Reference → Verdict) (nodes : List Node) (i : ℕ) (d : Node) (n : ℕ) (there : i < length nodes) where
  pub node_passed : (m : ℕ) → Ok m ≡ pass n (map v (references (listed (get_or nodes i d).leaves.now)))
      → pass m (map v (node_references (nodes_listed (drop (i + 1) nodes)))) ≡ pass n (map v (node_references (nodes_listed (drop i nodes))))
  node_passed m e =
      passed_more v n m (references (listed (get_or nodes i d).leaves.now)) (node_references (nodes_listed (drop (i + 1) nodes))) e
      ∙ ap (λ q. pass n (map v (node_references (nodes_listed q)))) (sym (drop_more nodes i d there))

  pub node_stopped : (o : Order) → Err o ≡ pass n (map v (references (listed (get_or nodes i d).leaves.now))) → Err o ≡ pass n (map v (node_references (nodes_listed (drop i nodes))))
  node_stopped o e =
      stopped_more v n o (references (listed (get_or nodes i d).leaves.now)) (node_references (nodes_listed (drop (i + 1) nodes))) e
      ∙ ap (λ q. pass n (map v (node_references (nodes_listed q)))) (sym (drop_more nodes i d there))

module _ (befores : List Defs) (nodes : List Node) (i : ℕ) (d : Node) (n : ℕ) (there : i < length nodes) where
  pub held_passed : (m : ℕ) → Ok m ≡ pass n (leaves_verdicts (listed (get_or nodes i d).leaves.now) befores) → pass m (nodes_verdicts (nodes_listed (drop (i + 1) nodes)) befores) ≡ pass n (nodes_verdicts (nodes_listed (drop i nodes)) befores)
  held_passed m e =
      passed_on n m (leaves_verdicts (listed (get_or nodes i d).leaves.now) befores) (nodes_verdicts (nodes_listed (drop (i + 1) nodes)) befores) e
      ∙ ap (λ q. pass n (nodes_verdicts (nodes_listed q) befores)) (sym (drop_more nodes i d there))

  pub held_stopped : (o : Order) → Err o ≡ pass n (leaves_verdicts (listed (get_or nodes i d).leaves.now) befores) → Err o ≡ pass n (nodes_verdicts (nodes_listed (drop i nodes)) befores)
  held_stopped o e =
      stopped n o (leaves_verdicts (listed (get_or nodes i d).leaves.now) befores) (nodes_verdicts (nodes_listed (drop (i + 1) nodes)) befores) e
      ∙ ap (λ q. pass n (nodes_verdicts (nodes_listed q) befores)) (sym (drop_more nodes i d there))
