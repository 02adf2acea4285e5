-- Sums of weights whose greatest number stands for every greater one.
use Rattle.std.proofs.Common.{◌≡◌, ℕ, ◌+◌, ◌<◌, ◌≤◌, ◌^◌, cond, Bool, true, false, List, [], ◌∷◌, length, drop, get_or, sym, ap, ◌∙◌, arith, Bor}
use Rattle.std.proofs.lemmas.List.{drop_more, drop_all}
use Rattle.comp_model.specs.CoreModules.{CoreModule}
use Rattle.comp_model.specs.declared.row.Row.{Row}
use Rattle.comp_model.specs.Model as m
use Rattle.comp_model.specs.Model.{row, Names, define, Leaves, Defs}
use Rattle.comp_model.specs.Weight.{weight_of_leaf, weight_of_leaves, weight_of_nodes, weight_of_defs, weight}
use Rattle.wire_tree.specs.declared.tree.Leaf.{Leaf}
use Rattle.wire_tree.specs.declared.tree.Leaf as l
use Rattle.wire_tree.specs.declared.tree.Node.{Node}
use Rattle.wire_tree.specs.declared.tree.Scope.{Scope, out-Scope}
use Rattle.wire_tree.specs.Lists.{listed, nodes_listed, defs_listed}
use Rattle.wire_tree.specs.Model.{leaf_of, scope_of}
use Rattle.wire_tree.proofs.Leaves.{leaf_node, leaf_nodes, scope_fields}
use Rattle.print_table.specs.TextOf.{unnamed_leaf, unnamed_leaves, unnamed_defs, unless_names, unnamed, is_name_section}
use Rattle.tree_print.specs.Taken.{capped}
use Rattle.tree_print.specs.Weights.{row_weight, definition_weight}

-- a part, and what stands beside it
pub sum_of : (a w r s : ℕ) → r ≡ capped w → s ≡ capped (a + r) → s ≡ capped (a + w)
sum_of a w r s e f = omega (arith, e, f)

module _ {X : Type 0} (all : List X → ℕ) (one : X → ℕ) (none : all [] ≡ 0) (more : (x : X) (xs : List X) → all (x ∷ xs) ≡ one x + all xs) where
  -- a turn of a loop, at place i
  pub turn : (xs : List X) (i : ℕ) (d : X) (total r new whole : ℕ) → i < length xs → r ≡ capped (one (get_or xs i d)) → new ≡ capped (total + r) → capped (total + all (drop i xs)) ≡ whole → capped (new + all (drop (i + 1) xs)) ≡ whole
  turn xs i d total r new whole h e f s =
      let split : all (drop i xs) ≡ one (get_or xs i d) + all (drop (i + 1) xs) = ap all (drop_more xs i d h) ∙ more (get_or xs i d) (drop (i + 1) xs) in
      omega (arith, e, f, s, split)

  pub turn_item : (xs : List X) (i : ℕ) (x : X) (total r new whole : ℕ) → i < length xs → x ≡ get_or xs i x → r ≡ capped (one x) → new ≡ capped (total + r) → capped (total + all (drop i xs)) ≡ whole → capped (new + all (drop (i + 1) xs)) ≡ whole
  turn_item xs i x total r new whole h is e f s = turn xs i x total r new whole h (e ∙ ap (λ y. capped (one y)) is) f s

  pub ends : (xs : List X) (i total : ℕ) → length xs ≤ i → total < 2 ^ 64 → capped (total + all (drop i xs)) ≡ capped (all xs) → total ≡ capped (all xs)
  ends xs i total h small s =
      let left : all (drop i xs) ≡ 0 = ap all (drop_all i xs h) ∙ none in
      omega (arith, small, s, left)

-- ---- definitions without custom sections of names

def_more : (f : CoreModule → ℕ) (b : Bool) (u : Row) (ls : Leaves) (ds : Defs) → weight_of_defs f (unless_names b (define m.no_names (row u ls)) ds) ≡ cond b 0 (32 + row_weight f ls) + weight_of_defs f ds
def_more f true u ls ds = omega arith
def_more f false u ls ds = omega arith

pub defs_more : (f : CoreModule → ℕ) (n : Node) (ns : List Node)
    → weight_of_defs f (unnamed_defs (defs_listed (n ∷ ns))) ≡ definition_weight f n.row (listed n.leaves.now) + weight_of_defs f (unnamed_defs (defs_listed ns))
defs_more f n ns = def_more f (is_name_section n.row (listed n.leaves.now)) n.row (unnamed_leaves (listed n.leaves.now)) (unnamed_defs (defs_listed ns))

pub plain_defs_more : (f : CoreModule → ℕ) (n : Node) (ns : List Node) → weight_of_defs f (defs_listed (n ∷ ns)) ≡ 32 + row_weight f (listed n.leaves.now) + weight_of_defs f (defs_listed ns)
plain_defs_more f n ns = omega arith

pub definition_of : (f : CoreModule → ℕ) (u : Row) (ls : Leaves) (w s : ℕ) → false ≡ is_name_section u ls → w ≡ capped (weight_of_leaves f (unnamed_leaves ls)) → s ≡ capped (64 + w) → s ≡ capped (definition_weight f u ls)
definition_of f u ls w s e g h =
    let is : definition_weight f u ls ≡ 32 + row_weight f (unnamed_leaves ls) = sym (ap (λ (b : Bool). cond b 0 (32 + row_weight f (unnamed_leaves ls))) e) in
    omega (arith, g, h, is)

-- ---- leaves that hold parts

module _ (f : CoreModule → ℕ) where
  pub node_weighs : (x : Leaf) (n : Bor Node) → x ≡ l.Node n → weight_of_leaf f (leaf_of x) ≡ 32 + row_weight f (listed n.now.leaves.now)
  node_weighs x n e = ap (λ y. weight_of_leaf f (leaf_of y)) e ∙ ap (weight_of_leaf f) (leaf_node n)

  pub nodes_weigh : (x : Leaf) (ns : Bor (List Node)) → x ≡ l.Nodes ns → weight_of_leaf f (leaf_of x) ≡ 32 + weight_of_nodes f (nodes_listed ns.now)
  nodes_weigh x ns e = ap (λ y. weight_of_leaf f (leaf_of y)) e ∙ ap (weight_of_leaf f) (leaf_nodes ns)

  pub scope_weighs : (x : Leaf) (s : Bor Scope) → x ≡ l.Scope s → weight_of_leaf f (leaf_of x) ≡ 64 + weight_of_defs f (defs_listed (out-Scope s.now).defs.now)
  scope_weighs x s e = ap (λ y. weight_of_leaf f (leaf_of y)) e ∙ ap (λ y. weight_of_leaf f (m.scope y)) (scope_fields s.now) ∙ omega arith

  pub printed_scope_weighs : (x : Leaf) (s : Bor Scope) → x ≡ l.Scope s → weight_of_leaf f (unnamed_leaf (leaf_of x)) ≡ 64 + weight_of_defs f (unnamed_defs (defs_listed (out-Scope s.now).defs.now))
  printed_scope_weighs x s e = ap (λ y. weight_of_leaf f (unnamed_leaf (leaf_of y))) e ∙ ap (λ y. weight_of_leaf f (unnamed_leaf (m.scope y))) (scope_fields s.now) ∙ omega arith

  pub whole_weighs : (x : Scope) → weight f (unnamed (scope_of x)) ≡ 32 + weight_of_defs f (unnamed_defs (defs_listed (out-Scope x).defs.now))
  whole_weighs x = ap (λ b. weight f (unnamed b)) (scope_fields x) ∙ omega arith
