-- The marks inside a definition: those of the scope that it holds alone, or none.
use Rattle.std.proofs.Common.{◌≡◌, false, refl, ap, ◌∙◌, List}
use Rattle.comp_model.specs.Model.{Leaf, present, node, nodes, scope, scope_of, Leaves, no_leaf, ◌▸◌, row, Nodes, no_node, one_node}
use Rattle.comp_model.specs.Origins.{Held, holds_none}
use Rattle.comp_expanded.specs.ListMarks.{Inside}
use Rattle.comp_scopes.specs.Encoding.{Encoding}
use Rattle.comp_scopes.specs.Form.{held_first}
use Rattle.comp_scopes.specs.Rowed.{holds_scope, leaf_holds_scope, nodes_hold_scope}
use Rattle.comp_tables.specs.Tables.{Opened}
use Rattle.comp_tables.specs.InText.{text_held, text_held_leaf, text_held_nodes}
use Rattle.comp_tables.proofs.OfExpansion.{or-left, or-right}

pub both-none : (a b : Held) → a ≡ holds_none → b ≡ holds_none → held_first a b ≡ holds_none
both-none a b p q = ap (λ x. held_first x b) p ∙ q

module _ (e : Encoding) (os : List Opened) (h : Inside) where
  mutual
    pub none-held : (ls : Leaves) → holds_scope ls ≡ false → text_held e os ls h ≡ holds_none
    none-held no_leaf n = refl
    none-held (l ▸ ls) n =
        both-none (text_held_leaf e os l h) (text_held e os ls h) (none-held-leaf l (or-left (leaf_holds_scope l) (holds_scope ls) n)) (none-held ls (or-right (leaf_holds_scope l) (holds_scope ls) n))

    none-held-leaf : (l : Leaf) → leaf_holds_scope l ≡ false → text_held_leaf e os l h ≡ holds_none
    none-held-leaf (scope (scope_of kd id label ds)) n = absurd (cc)
    none-held-leaf (present l) n = none-held-leaf l n
    none-held-leaf (node (row t ls)) n = none-held ls n
    none-held-leaf (nodes ns) n = none-held-nodes ns n
    none-held-leaf l n = refl

    none-held-nodes : (ns : Nodes) → nodes_hold_scope ns ≡ false → text_held_nodes e os ns h ≡ holds_none
    none-held-nodes no_node n = refl
    none-held-nodes (one_node (row t ls) ns) n =
        both-none (text_held e os ls h) (text_held_nodes e os ns h) (none-held ls (or-left (holds_scope ls) (nodes_hold_scope ns) n)) (none-held-nodes ns (or-right (holds_scope ls) (nodes_hold_scope ns) n))
