-- Rows of a list, one for each node.
use Rattle.std.proofs.Common.{◌≡◌, ℕ, ◌+◌, zero, suc, refl, sym, ap, ◌∙◌, List, [], ◌∷◌, ◌++◌, map, length, ◌≤◌, ◌<◌, drop, drop_of_length-le, append-nil, get_or, arith}
use Rattle.std.proofs.lemmas.List.{drop_more}
use Rattle.comp_model.specs.Model.{Node as Row, Nodes, no_node, one_node}
use Rattle.comp_wire.specs.Values.{rows_of_list}
use Rattle.wire_tree.specs.Lists.{node_of, nodes_listed}
use Rattle.wire_tree.specs.declared.tree.Node.{Node}
use Rattle.item_read.specs.Leaves.{Each}

rows : List Row → Nodes
rows [] = no_node
rows (n ∷ ns) = one_node n (rows ns)

rows_mapped : {A : Type 0} (f : A → Row) (xs : List A) → rows_of_list f xs ≡ rows (map f xs)
unfolding rows
rows_mapped f [] = refl
rows_mapped f (x ∷ xs) = ap (one_node (f x)) (rows_mapped f xs)

nodes_mapped : (ns : List Node) → nodes_listed ns ≡ rows (map node_of ns)
unfolding rows
nodes_mapped [] = refl
nodes_mapped (n ∷ ns) = ap (one_node (node_of n)) (nodes_mapped ns)

pub all_rows : {A : Type 0} (f : A → Row) (xs : List A) (ns : List Node) (i : ℕ) → length ns ≤ i → map f xs ++ map node_of (drop i ns) ≡ map node_of ns → rows_of_list f xs ≡ nodes_listed ns
all_rows f xs ns i h e =
    rows_mapped f xs
    ∙ ap rows (sym (append-nil (map f xs)) ∙ ap (λ q. map f xs ++ map node_of q) (sym (drop_of_length-le ns h)) ∙ e)
    ∙ sym (nodes_mapped ns)

module _ {A : Type 0} (f : A → Row) where
  pushed : (xs : List A) (y : A) (rest : List Row) → map f (xs ++ y ∷ []) ++ rest ≡ map f xs ++ f y ∷ rest
  pushed [] y rest = refl
  pushed (x ∷ xs) y rest = ap (◌∷◌ (f x)) (pushed xs y rest)

  -- one turn of a loop: what the node at i is has become the last of those that were made
  pub turn : (xs new : List A) (y : A) (ns : List Node) (i : ℕ) (d : Node) → i < length ns → new ≡ xs ++ y ∷ [] → f y ≡ node_of (get_or ns i d) → map f xs ++ map node_of (drop i ns) ≡ map node_of ns
      → map f new ++ map node_of (drop (i + 1) ns) ≡ map node_of ns
  turn xs new y ns i d h e k inv =
      ap (λ q. map f q ++ map node_of (drop (i + 1) ns)) e
      ∙ pushed xs y (map node_of (drop (i + 1) ns))
      ∙ ap (λ q. map f xs ++ q ∷ map node_of (drop (i + 1) ns)) k
      ∙ ap (λ q. map f xs ++ map node_of q) (sym (drop_more ns i d h))
      ∙ inv

-- one of a list, each of which is such
pub one_of_all : (P : Row → Type 0) (d : Node) (ns : List Node) (i : ℕ) → Each P (nodes_listed ns) → i < length ns → P (node_of (get_or ns i d))
one_of_all P d [] i h lt = absurd (omega (arith, lt))
one_of_all P d (n ∷ ns) zero h lt = h.0
one_of_all P d (n ∷ ns) (suc i) h lt = one_of_all P d ns i h.1 (omega (arith, lt))
