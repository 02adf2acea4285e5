-- Lists of names with a space and an index, each of one row.
use Rattle.std.proofs.Common.{◌≡◌, ℕ, ◌<◌, sym, ap, ◌∙◌, subst, List, length, get_or}
use Rattle.comp_model.specs.declared.row.Row.{Row}
use Rattle.comp_model.specs.Model as m
use Rattle.comp_model.specs.Model.{Leaves}
use Rattle.wire_tree.specs.Lists.{listed, node_of, nodes_listed}
use Rattle.wire_tree.specs.declared.tree.Node.{Node}
use Rattle.item_read.specs.Leaves.{Each}
use Rattle.item_read.specs.Rows.{IsListed, IsNamedItem}
use Rattle.item_read.proofs.ListRows.{one_of_all}

-- a node, by its row and its leaves
module _ (n : Node) (u : Row) (ls : Leaves) (e : n.row ≡ u) (f : listed n.leaves.now ≡ ls) where
  pub as_row : m.row u ls ≡ node_of n
  as_row = sym (ap (λ v. m.row v (listed n.leaves.now)) e ∙ ap (m.row u) f)

  pub as_listed : IsListed (node_of n) → IsListed (m.row u ls)
  as_listed h = subst IsListed (sym as_row) h

-- an entry of a list of this row
pub named_entry : (d : Node) (ns : List Node) (i : ℕ) (r : Row) (ls : Leaves) → Each (IsNamedItem r) (nodes_listed ns) → i < length ns → ls ≡ listed (get_or ns i d).leaves.now → m.row r ls ≡ node_of (get_or ns i d)
named_entry d ns i r ls h lt e =
    let n : Node = get_or ns i d in
    ap (m.row r) e ∙ ap (λ v. m.row v (listed n.leaves.now)) (sym (one_of_all (IsNamedItem r) d ns i h lt).0)
