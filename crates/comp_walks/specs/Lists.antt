-- Optional parts, lists and definitions as the model has them.
use Rattle.std.specs.Prelude.{◌≡◌, refl, Bool, true, false, List, [], ◌∷◌, Option, Some, None}
use Rattle.comp_model.specs.declared.row.Row.{Row}
use Rattle.comp_model.specs.Model as m
use Rattle.comp_model.specs.Model.{Leaf, Leaves, row, Nodes, no_node, one_node, Def, Defs, no_def, one_def}

-- a part that may be missing
abbrev pub option_leaf : {A : Type 0} → (A → Leaf) → Option A → Leaf
option_leaf f None = m.absent
option_leaf f (Some x) = m.present (f x)

-- the nodes of a list
abbrev pub entries : {A : Type 0} → (A → Row) → (A → Leaves) → List A → Nodes
entries t f [] = no_node
entries t f (x ∷ xs) = one_node (row (t x) (f x)) (entries t f xs)

-- the definitions of a list
abbrev pub definitions : {A : Type 0} → (A → Def) → List A → Defs
definitions f [] = no_def
definitions f (x ∷ xs) = one_def (f x) (definitions f xs)

-- whether a leaf holds one node
abbrev pub is_node : Leaf → Bool
is_node (m.node n) = true
is_node _ = false

pub option_plain : {A : Type 0} (f : A → Leaf) (o : Option A) → is_node (option_leaf f o) ≡ false
option_plain f None = refl
option_plain f (Some x) = refl
