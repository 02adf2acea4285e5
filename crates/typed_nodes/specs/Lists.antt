-- Optional parts and lists as the model has them.
use Rattle.std.specs.Prelude.{Bool, cond, List, [], ◌∷◌, Option, Some, None}
use Rattle.comp_model.specs.declared.row.Row.{Row}
use Rattle.comp_model.specs.Model as m
use Rattle.comp_model.specs.Model.{Leaf, Leaves, Node, row, Nodes, no_node, one_node}

-- a part that may be missing
abbrev pub option_leaf : {A : Type 0} → (A → Leaf) → Option A → Leaf
option_leaf f None = m.absent
option_leaf f (Some x) = m.present (f x)

-- a list, by the row of its entries and the leaves of each
abbrev pub entries : {A : Type 0} → Row → (A → Leaves) → List A → Nodes
entries t f [] = no_node
entries t f (x ∷ xs) = one_node (row t (f x)) (entries t f xs)

-- a list of nodes, one for each value
abbrev pub nodes_from : {A : Type 0} → (A → Node) → List A → Nodes
nodes_from f [] = no_node
nodes_from f (x ∷ xs) = one_node (f x) (nodes_from f xs)

-- a flag, as the number 0 or 1
abbrev pub flag_leaf : Bool → Leaf
flag_leaf b = m.number (cond b 1 0)
