-- Definitions of a scope, one for each item.
use Rattle.std.proofs.Common.{◌≡◌, ℕ, refl, sym, ap, ◌∙◌, List, [], ◌∷◌, ◌++◌, map, length, ◌≤◌, drop, drop_of_length-le, append-nil}
use Rattle.comp_model.specs.Model.{Node as Row, Defs, no_def, one_def, define, no_names}
use Rattle.wire_tree.specs.Lists as w
use Rattle.wire_tree.specs.Lists.{node_of}
use Rattle.wire_tree.specs.declared.tree.Node.{Node}
use Rattle.item_tree.specs.declared.tree.Item.{Item}
use Rattle.item_tree.specs.Model.{item_row, defs_listed}

defs : List Row → Defs
defs [] = no_def
defs (n ∷ ns) = one_def (define no_names n) (defs ns)

items_mapped : (xs : List Item) → defs_listed xs ≡ defs (map item_row xs)
unfolding defs
items_mapped [] = refl
items_mapped (x ∷ xs) = ap (one_def (define no_names (item_row x))) (items_mapped xs)

nodes_mapped : (ns : List Node) → w.defs_listed ns ≡ defs (map node_of ns)
unfolding defs
nodes_mapped [] = refl
nodes_mapped (n ∷ ns) = ap (one_def (define no_names (node_of n))) (nodes_mapped ns)

pub all_defs : (xs : List Item) (ns placed : List Node) (i : ℕ) → length xs ≤ i → map node_of ns ++ map item_row (drop i xs) ≡ map item_row xs → placed ≡ ns → w.defs_listed placed ≡ defs_listed xs
all_defs xs ns placed i h e p =
    ap w.defs_listed p ∙ nodes_mapped ns
    ∙ ap defs (sym (append-nil (map node_of ns)) ∙ ap (λ q. map node_of ns ++ map item_row q) (sym (drop_of_length-le xs h)) ∙ e)
    ∙ sym (items_mapped xs)
