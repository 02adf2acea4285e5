-- A key as it is put together: part by part, with the ends.
use Rattle.std.proofs.Common.{◌≡◌, true, List, [], ◌∷◌, ◌++◌, cond, refl, sym, ◌∙◌, ap, subst, append_assoc}
use Rattle.comp_model.specs.declared.row.Row.{Row}
use Rattle.comp_model.specs.RowNumbers.{row_number}
use Rattle.comp_model.specs.Model.{Leaf, ref, present, nodes, Target, index, numeral, name, path, inline, bundle, Path, root_number, root_name, export_of, Leaves, no_leaf, ◌▸◌, row, Nodes, no_node, one_node}
use Rattle.comp_model.specs.Spaces.{code_of_space}
use Rattle.comp_scopes.specs.Reused.{is_shared, Typed}
use Rattle.type_keys.specs.Keys.{Part, part_end, part_row, part_present, part_nodes, part_space, part_export, path_key, target_key, leaves_key, leaf_key, nodes_key, type_key, LeavesPassed, NodesPassed}
use Rattle.type_keys.proofs.Search.{leaf-stays}
use Rattle.tree_expand.specs.KeyParts.{leaf_parts, leaves_parts, nodes_parts, begun_parts}

path-then : (p : Path) (r : List Part) → path_key p r ≡ path_key p [] ++ r
path-then (root_number o n) r = refl
path-then (root_name x) r = refl
path-then (export_of p t) r = ap (λ q. part_export t ∷ q) (path-then p r)

target-then : (xs : List Typed) (t : Target) (r : List Part) → target_key xs t r ≡ target_key xs t [] ++ r
target-then xs (index n) r = refl
target-then xs (numeral o n) r = refl
target-then xs (name q x) r = refl
target-then xs (path p) r = path-then p r
target-then xs (inline (row t ls)) r = refl
target-then xs (bundle n) r = refl

mutual
  pub leaf_then : (xs : List Typed) (l : Leaf) (r : List Part) → leaf_key xs l r ≡ leaf_parts xs l ++ r
  leaf_then xs (ref s t) r = ap (λ q. part_space (code_of_space s) ∷ q) (target-then xs t r)
  leaf_then xs (present l) r = ap (λ q. part_present ∷ q) (leaf_then xs l r)
  leaf_then xs (nodes ns) r = ap (λ q. part_nodes ∷ q) (nodes_whole xs ns r ∙ sym (append_assoc (nodes_parts xs ns) (part_end ∷ []) r) ∙ ap (λ q. q ++ r) (sym (nodes_whole xs ns [])))
  leaf_then xs l r = refl

  pub leaves_whole : (xs : List Typed) (ls : Leaves) (r : List Part) → leaves_key xs ls r ≡ leaves_parts xs ls ++ part_end ∷ r
  leaves_whole xs no_leaf r = refl
  leaves_whole xs (l ▸ ls) r = leaf_then xs l (leaves_key xs ls r) ∙ ap (λ q. leaf_parts xs l ++ q) (leaves_whole xs ls r) ∙ sym (append_assoc (leaf_parts xs l) (leaves_parts xs ls) (part_end ∷ r))

  pub nodes_whole : (xs : List Typed) (ns : Nodes) (r : List Part) → nodes_key xs ns r ≡ nodes_parts xs ns ++ part_end ∷ r
  nodes_whole xs no_node r = refl
  nodes_whole xs (one_node (row t ls) ns) r =
      ap (λ q. part_row (row_number t) ∷ q)
      (leaves_whole xs ls (nodes_key xs ns r) ∙ ap (λ q. leaves_parts xs ls ++ part_end ∷ q) (nodes_whole xs ns r)
      ∙ sym (append_assoc (leaves_parts xs ls) (part_end ∷ []) (nodes_parts xs ns ++ part_end ∷ r))
      ∙ sym (append_assoc (leaves_parts xs ls ++ part_end ∷ []) (nodes_parts xs ns) (part_end ∷ r)))

-- the key of a type that is to be looked up
pub type_whole : (xs : List Typed) (t : Row) (ls : Leaves) → is_shared t ≡ true → (begun_parts true t ++ leaves_parts xs ls) ++ part_end ∷ [] ≡ type_key xs t ls
type_whole xs t ls h = ap (λ (b : Rattle.std.proofs.Common.Bool). (cond b (part_row (row_number t) ∷ []) (Rattle.type_keys.specs.Keys.part_other ∷ []) ++ leaves_parts xs ls) ++ part_end ∷ []) h ∙ ap (λ q. part_row (row_number t) ∷ q) (sym (leaves_whole xs ls []))

-- what leaves add stays where more types are passed
pub parts_stay : (xs zs : List Typed) (ls : Leaves) → LeavesPassed xs ls → leaves_parts (xs ++ zs) ls ≡ leaves_parts xs ls
parts_stay xs zs no_leaf h = refl
parts_stay xs zs (l ▸ ls) h = ap (λ q. q ++ leaves_parts (xs ++ zs) ls) (leaf-stays xs zs l [] h.0) ∙ ap (λ q. leaf_parts xs l ++ q) (parts_stay xs zs ls h.1)
