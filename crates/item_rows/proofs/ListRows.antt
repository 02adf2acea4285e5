-- Rows of a list, one for each entry.
use Rattle.std.proofs.Common.{◌≡◌, ℕ, refl, sym, ap, ◌∙◌, List, [], ◌∷◌, ◌++◌, map, length, ◌≤◌, drop, drop_of_length-le, append-nil}
use Rattle.comp_model.specs.Model.{Node as Row, Nodes, no_node, one_node}
use Rattle.comp_wire.specs.Values.{rows_of_list}
use Rattle.wire_tree.specs.Lists.{node_of, nodes_listed}
use Rattle.wire_tree.specs.declared.tree.Node.{Node}

rows : List Row → Nodes
rows [] = no_node
rows (n ∷ ns) = one_node n (rows ns)

rows_mapped : {A : Type 0} (f : A → Row) (xs : List A) → rows_of_list f xs ≡ rows (map f xs)
unfolding rows
rows_mapped f [] = refl
rows_mapped f (x ∷ xs) = ap (one_node (f x)) (rows_mapped f xs)

nodes_mapped : (ns : List Node) → nodes_listed ns ≡ rows (map node_of ns)
unfolding rows
nodes_mapped [] = refl
nodes_mapped (n ∷ ns) = ap (one_node (node_of n)) (nodes_mapped ns)

pub all_rows : {A : Type 0} (f : A → Row) (xs : List A) (ns placed : List Node) (i : ℕ) → length xs ≤ i → map node_of ns ++ map f (drop i xs) ≡ map f xs → placed ≡ ns → nodes_listed placed ≡ rows_of_list f xs
all_rows f xs ns placed i h e p =
    ap nodes_listed p ∙ nodes_mapped ns
    ∙ ap rows (sym (append-nil (map node_of ns)) ∙ ap (λ q. map node_of ns ++ map f q) (sym (drop_of_length-le xs h)) ∙ e)
    ∙ sym (rows_mapped f xs)
