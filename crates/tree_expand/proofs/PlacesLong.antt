-- As many places as references that are left.
use Rattle.std.proofs.Common.{◌≡◌, ℕ, ◌+◌, List, [], ◌∷◌, ◌++◌, length, Option, Some, None, refl, ◌∙◌, arith}
use Rattle.comp_model.specs.declared.Space.{Space}
use Rattle.comp_model.specs.declared.row.Row.{Row}
use Rattle.comp_model.specs.Core.{Id}
use Rattle.comp_model.specs.Model.{Leaf, core_value, ref, present, node, nodes, scope, inline, bundle, Leaves, no_leaf, ◌▸◌, row, Nodes, no_node, one_node, Scope, scope_of}
use Rattle.comp_scopes.specs.References.{references, references_leaf, references_nodes}
use Rattle.comp_scopes.specs.Signatures.{reused_signature}
use Rattle.type_keys.specs.Keys.{stands_for}
use Rattle.tree_expand.specs.Passed.{Noted, types_in, ids_in}
use Rattle.tree_expand.specs.Numbering.{Numbered, number_found, number_inline, number_leaf, number_leaves, number_nodes}
use Rattle.comp_tree.proofs.Ranges.{range_length}

length-both : (xs ys : List ℕ) → length (xs ++ ys) ≡ length xs + length ys
length-both [] ys = omega arith
length-both (x ∷ xs) ys = omega (arith, length-both xs ys)

module _ (ids : List (Option Id)) (c : Scope) (k : ℕ) where
  inline-long : (E : List Noted) (u m : ℕ) (s : Space) (t : Row) (ls : Leaves) (a : Numbered Leaves) (q : Option ℕ) → length (number_inline ids c k E u m s t ls a q).parts.places ≡ references_leaf (number_inline ids c k E u m s t ls a q).parts.here
  inline-long E u m s t ls a (Some j) = refl
  inline-long E u m s t ls a None = go (stands_for (types_in (E ++ a.noted)) t ls)
    where
      go : (o : Option ℕ) → length (number_found c k u m s t ls (ids_in (E ++ a.noted)) a o).parts.places ≡ references_leaf (number_found c k u m s t ls (ids_in (E ++ a.noted)) a o).parts.here
      go (Some j) = refl
      go None = refl

  mutual
    pub leaves_long : (E : List Noted) (u m : ℕ) (ls : Leaves) → length (number_leaves ids c k E u m ls).parts.places ≡ references (number_leaves ids c k E u m ls).parts.here
    leaves_long E u m no_leaf = refl
    leaves_long E u m (l ▸ ls) =
        let a = number_leaf ids c k E u m l in
        let b = number_leaves ids c k (E ++ a.noted) (u + references_leaf l) (m + a.made) ls in
        let x : length a.parts.places ≡ references_leaf a.parts.here = leaf_long E u m l in
        let y : length b.parts.places ≡ references b.parts.here = leaves_long (E ++ a.noted) (u + references_leaf l) (m + a.made) ls in length-both a.parts.places b.parts.places ∙ omega (arith, x, y)

    leaf_long : (E : List Noted) (u m : ℕ) (l : Leaf) → length (number_leaf ids c k E u m l).parts.places ≡ references_leaf (number_leaf ids c k E u m l).parts.here
    leaf_long E u m (ref s (inline (row t ls))) = inline-long E u m s t ls (number_leaves ids c k E (u + 1) m ls) (reused_signature (c ∷ []) k t ls)
    leaf_long E u m (ref s (bundle (row t ls))) = refl
    leaf_long E u m (present l) = leaf_long E u m l
    leaf_long E u m (node (row t ls)) = leaves_long E u m ls
    leaf_long E u m (nodes ns) = nodes_long E u m ns
    leaf_long E u m (scope (scope_of kd id label ds)) = refl
    leaf_long E u m (core_value v) = range_length u (references_leaf (core_value v))
    leaf_long E u m l = range_length u (references_leaf l)

    nodes_long : (E : List Noted) (u m : ℕ) (ns : Nodes) → length (number_nodes ids c k E u m ns).parts.places ≡ references_nodes (number_nodes ids c k E u m ns).parts.here
    nodes_long E u m no_node = refl
    nodes_long E u m (one_node (row t ls) ns) =
        let a = number_leaves ids c k E u m ls in
        let b = number_nodes ids c k (E ++ a.noted) (u + references ls) (m + a.made) ns in
        let x : length a.parts.places ≡ references a.parts.here = leaves_long E u m ls in
        let y : length b.parts.places ≡ references_nodes b.parts.here = nodes_long (E ++ a.noted) (u + references ls) (m + a.made) ns in length-both a.parts.places b.parts.places ∙ omega (arith, x, y)
