-- What is numbered from a table is what is filled from it, and what is renumbered with it.
use Rattle.std.proofs.Common.{◌≡◌, ℕ, ◌+◌, List, refl, ap, ◌∙◌}
use Rattle.comp_model.specs.Core.{ref_numeral, ref_name}
use Rattle.comp_model.specs.Model.{Leaf, core_value, ref, place, present, node, nodes, inline, bundle, Leaves, no_leaf, ◌▸◌, row, Nodes, no_node, one_node, Scope, scope}
use Rattle.comp_scopes.specs.Encoding.{Encoding}
use Rattle.comp_scopes.specs.References.{references, references_leaf}
use Rattle.comp_scopes.specs.Filled.{filled, filled_leaf, filled_nodes}
use Rattle.comp_scopes.specs.Resolved.{binary_of_leaves, binary_of_leaf, binary_of_nodes}
use Rattle.comp_expanded.specs.IsResolved.{LeavesResolved, LeafResolved, NodesResolved}
use Rattle.comp_tables.specs.Tables.{Opened}
use Rattle.comp_tables.specs.Built.{renumbered, renumbered_leaf, renumbered_nodes}
use Rattle.comp_walks.specs.Numbered.{numbered, numbered_leaf, numbered_nodes}
use Rattle.comp_walks.specs.Plain.{ArePlain, IsPlain, AreNodesPlain}

module _ (e : Encoding) (st : List Scope) (table : List ℕ) where
  mutual
    pub leaves-filled : (ls : Leaves) (u : ℕ) → ArePlain ls → binary_of_leaves e (numbered table u ls) ≡ filled e st table u ls
    leaves-filled no_leaf u h = refl
    leaves-filled (l ▸ ls) u h =
        ap (λ q. q ▸ binary_of_leaves e (numbered table (u + references_leaf l) ls)) (leaf-filled l u h.0) ∙ ap (λ q. filled_leaf e st table u l ▸ q) (leaves-filled ls (u + references_leaf l) h.1)

    leaf-filled : (l : Leaf) (u : ℕ) → IsPlain l → binary_of_leaf e (numbered_leaf table u l) ≡ filled_leaf e st table u l
    leaf-filled (core_value (ref_numeral b o n)) u h = refl
    leaf-filled (core_value (ref_name b r x)) u h = refl
    leaf-filled (ref s (inline n)) u h = absurd h
    leaf-filled (ref s (bundle n)) u h = absurd h
    leaf-filled (ref s t) u h = refl
    leaf-filled (place p) u h = absurd h
    leaf-filled (present l) u h = ap present (leaf-filled l u h)
    leaf-filled (node (row t ls)) u h = ap (λ q. node (row t q)) (leaves-filled ls u h)
    leaf-filled (nodes ns) u h = ap nodes (nodes-filled ns u h)
    leaf-filled (scope s) u h = absurd h
    leaf-filled l u h = refl

    nodes-filled : (ns : Nodes) (u : ℕ) → AreNodesPlain ns → binary_of_nodes e (numbered_nodes table u ns) ≡ filled_nodes e st table u ns
    nodes-filled no_node u h = refl
    nodes-filled (one_node (row t ls) ns) u h =
        ap (λ q. one_node (row t q) (binary_of_nodes e (numbered_nodes table (u + references ls) ns))) (leaves-filled ls u h.0)
        ∙ ap (λ q. one_node (row t (filled e st table u ls)) q) (nodes-filled ns (u + references ls) h.1)

module _ (e : Encoding) (os : List Opened) (table : List ℕ) where
  mutual
    pub leaves-renumbered : (ls : Leaves) (u : ℕ) → ArePlain ls → binary_of_leaves e (numbered table u ls) ≡ renumbered e os table u ls
    leaves-renumbered no_leaf u h = refl
    leaves-renumbered (l ▸ ls) u h =
        ap (λ q. q ▸ binary_of_leaves e (numbered table (u + references_leaf l) ls)) (leaf-renumbered l u h.0) ∙ ap (λ q. renumbered_leaf e os table u l ▸ q) (leaves-renumbered ls (u + references_leaf l) h.1)

    leaf-renumbered : (l : Leaf) (u : ℕ) → IsPlain l → binary_of_leaf e (numbered_leaf table u l) ≡ renumbered_leaf e os table u l
    leaf-renumbered (core_value (ref_numeral b o n)) u h = refl
    leaf-renumbered (core_value (ref_name b r x)) u h = refl
    leaf-renumbered (ref s (inline n)) u h = absurd h
    leaf-renumbered (ref s (bundle n)) u h = absurd h
    leaf-renumbered (ref s t) u h = refl
    leaf-renumbered (place p) u h = absurd h
    leaf-renumbered (present l) u h = ap present (leaf-renumbered l u h)
    leaf-renumbered (node (row t ls)) u h = ap (λ q. node (row t q)) (leaves-renumbered ls u h)
    leaf-renumbered (nodes ns) u h = ap nodes (nodes-renumbered ns u h)
    leaf-renumbered (scope s) u h = absurd h
    leaf-renumbered l u h = refl

    nodes-renumbered : (ns : Nodes) (u : ℕ) → AreNodesPlain ns → binary_of_nodes e (numbered_nodes table u ns) ≡ renumbered_nodes e os table u ns
    nodes-renumbered no_node u h = refl
    nodes-renumbered (one_node (row t ls) ns) u h =
        ap (λ q. one_node (row t q) (binary_of_nodes e (numbered_nodes table (u + references ls) ns))) (leaves-renumbered ls u h.0)
        ∙ ap (λ q. one_node (row t (renumbered e os table u ls)) q) (nodes-renumbered ns (u + references ls) h.1)

-- what is numbered is resolved
module _ (table : List ℕ) where
  mutual
    pub leaves-resolved : (ls : Leaves) (u : ℕ) → ArePlain ls → LeavesResolved (numbered table u ls)
    leaves-resolved no_leaf u h = tt
    leaves-resolved (l ▸ ls) u h = (leaf-resolved l u h.0, leaves-resolved ls (u + references_leaf l) h.1)

    leaf-resolved : (l : Leaf) (u : ℕ) → IsPlain l → LeafResolved (numbered_leaf table u l)
    leaf-resolved (core_value (ref_numeral b o n)) u h = tt
    leaf-resolved (core_value (ref_name b r x)) u h = tt
    leaf-resolved (ref s (inline n)) u h = absurd h
    leaf-resolved (ref s (bundle n)) u h = absurd h
    leaf-resolved (ref s t) u h = tt
    leaf-resolved (place p) u h = absurd h
    leaf-resolved (present l) u h = leaf-resolved l u h
    leaf-resolved (node (row t ls)) u h = leaves-resolved ls u h
    leaf-resolved (nodes ns) u h = nodes-resolved ns u h
    leaf-resolved (scope s) u h = absurd h
    leaf-resolved l u h = tt

    nodes-resolved : (ns : Nodes) (u : ℕ) → AreNodesPlain ns → NodesResolved (numbered_nodes table u ns)
    nodes-resolved no_node u h = tt
    nodes-resolved (one_node (row t ls) ns) u h = (leaves-resolved ls u h.0, nodes-resolved ns (u + references ls) h.1)
