-- Leaves that settled are the leaves by the indices of their references.
use Rattle.std.proofs.Common.{◌≡◌, ℕ, ◌+◌, refl, sym, ap, ◌∙◌, List, [], ◌∷◌, ◌++◌, length, slice_index, append-nil, append_assoc, length-append}
use Rattle.std.proofs.Math.Seq.{get_or-append_seam}
use Rattle.comp_model.specs.Core.{ref_index, ref_numeral, ref_name}
use Rattle.comp_model.specs.Model.{Leaf, core_value, ref, present, node, nodes, scope, index, numeral, name, path, inline, bundle, Leaves, no_leaf, ◌▸◌, row, Nodes, no_node, one_node, scope_of}
use Rattle.comp_scopes.specs.Encoding.{Encoding}
use Rattle.comp_scopes.specs.References.{references, references_leaf, references_nodes}
use Rattle.comp_expanded.specs.IsExpanded.{LeavesExpanded, LeafExpanded, NodesExpanded}
use Rattle.comp_tables.specs.Tables.{Counters, Opened, past, past_leaf, found_indices, found_indices_leaf, found_indices_nodes}
use Rattle.comp_tables.specs.Built.{renumbered, renumbered_leaf, renumbered_nodes}
use Rattle.tree_names.specs.Settled.{settled, settled_leaf, settled_nodes}

at_seam : (front back : List ℕ) (n : ℕ) → slice_index (front ++ (n ∷ back)) (length front) ≡ n
at_seam front back n = get_or-append_seam front n back 0

module _ (ms : List Opened) where
  mutual
    leaves-long : (ls : Leaves) (c : Counters) → LeavesExpanded ls → length (found_indices ms ls c) ≡ references ls
    leaves-long no_leaf c x = refl
    leaves-long (l ▸ ls) c x = length-append (found_indices_leaf ms l c) (found_indices ms ls (past_leaf ms l c)) ∙ ap (λ (n : ℕ). n + length (found_indices ms ls (past_leaf ms l c))) (leaf-long l c x.0) ∙ ap (λ (n : ℕ). references_leaf l + n) (leaves-long ls (past_leaf ms l c) x.1)

    leaf-long : (l : Leaf) (c : Counters) → LeafExpanded l → length (found_indices_leaf ms l c) ≡ references_leaf l
    leaf-long (core_value (ref_numeral b o n)) c x = refl
    leaf-long (core_value (ref_name b r y)) c x = refl
    leaf-long (ref s (numeral o n)) c x = refl
    leaf-long (ref s (name r y)) c x = refl
    leaf-long (ref s (path p)) c x = refl
    leaf-long (ref s (inline n)) c x = absurd x
    leaf-long (ref s (bundle n)) c x = absurd x
    leaf-long (present l) c x = leaf-long l c x
    leaf-long (node (row t ls)) c x = leaves-long ls c x
    leaf-long (nodes ns) c x = nodes-long ns c x
    leaf-long l c x = refl

    nodes-long : (ns : Nodes) (c : Counters) → NodesExpanded ns → length (found_indices_nodes ms ns c) ≡ references_nodes ns
    nodes-long no_node c x = refl
    nodes-long (one_node (row t ls) ns) c x = length-append (found_indices ms ls c) (found_indices_nodes ms ns (past ms ls c)) ∙ ap (λ (n : ℕ). n + length (found_indices_nodes ms ns (past ms ls c))) (leaves-long ls c x.0) ∙ ap (λ (n : ℕ). references ls + n) (nodes-long ns (past ms ls c) x.1)

-- two parts of a table between what stands in front and behind
first_part : (front a b back : List ℕ) → front ++ ((a ++ b) ++ back) ≡ front ++ (a ++ (b ++ back))
first_part front a b back = ap (λ z. front ++ z) (append_assoc a b back)

next_part : (front a b back : List ℕ) → front ++ ((a ++ b) ++ back) ≡ (front ++ a) ++ (b ++ back)
next_part front a b back = first_part front a b back ∙ sym (append_assoc front a (b ++ back))

module _ (e : Encoding) (ms : List Opened) where
  mutual
    leaves-placed : (ls : Leaves) (c : Counters) (front back : List ℕ) → LeavesExpanded ls → renumbered e ms (front ++ (found_indices ms ls c ++ back)) (length front) ls ≡ settled e ms ls c
    leaves-placed no_leaf c front back x = refl
    leaves-placed (l ▸ ls) c front back x =
        let a : List ℕ = found_indices_leaf ms l c in
        let b : List ℕ = found_indices ms ls (past_leaf ms l c) in
        let n : length front + references_leaf l ≡ length (front ++ a) = sym (length-append front a ∙ ap (λ (k : ℕ). length front + k) (leaf-long ms l c x.0)) in
        ap (λ T. renumbered_leaf e ms T (length front) l ▸ renumbered e ms (front ++ ((a ++ b) ++ back)) (length front + references_leaf l) ls) (first_part front a b back)
        ∙ ap (λ z. z ▸ renumbered e ms (front ++ ((a ++ b) ++ back)) (length front + references_leaf l) ls) (leaf-placed l c front (b ++ back) x.0)
        ∙ ap (λ T. settled_leaf e ms l c ▸ renumbered e ms T (length front + references_leaf l) ls) (next_part front a b back)
        ∙ ap (λ (k : ℕ). settled_leaf e ms l c ▸ renumbered e ms ((front ++ a) ++ (b ++ back)) k ls) n
        ∙ ap (λ z. settled_leaf e ms l c ▸ z) (leaves-placed ls (past_leaf ms l c) (front ++ a) back x.1)

    leaf-placed : (l : Leaf) (c : Counters) (front back : List ℕ) → LeafExpanded l → renumbered_leaf e ms (front ++ (found_indices_leaf ms l c ++ back)) (length front) l ≡ settled_leaf e ms l c
    leaf-placed (core_value (ref_numeral b o n)) c front back x = ap (λ (i : ℕ). core_value (ref_index b i)) (at_seam front back n)
    leaf-placed (core_value (ref_name b r y)) c front back x = ap (λ (i : ℕ). core_value (ref_index b i)) (at_seam front back _)
    leaf-placed (ref s (numeral o n)) c front back x = ap (λ (i : ℕ). ref s (index i)) (at_seam front back n)
    leaf-placed (ref s (name r y)) c front back x = ap (λ (i : ℕ). ref s (index i)) (at_seam front back _)
    leaf-placed (ref s (path p)) c front back x = ap (λ (i : ℕ). ref s (index i)) (at_seam front back _)
    leaf-placed (ref s (inline n)) c front back x = absurd x
    leaf-placed (ref s (bundle n)) c front back x = absurd x
    leaf-placed (present l) c front back x = ap present (leaf-placed l c front back x)
    leaf-placed (node (row t ls)) c front back x = ap (λ z. node (row t z)) (leaves-placed ls c front back x)
    leaf-placed (nodes ns) c front back x = ap nodes (nodes-placed ns c front back x)
    leaf-placed (scope (scope_of kd id label ds)) c front back x = refl
    leaf-placed l c front back x = refl

    nodes-placed : (ns : Nodes) (c : Counters) (front back : List ℕ) → NodesExpanded ns → renumbered_nodes e ms (front ++ (found_indices_nodes ms ns c ++ back)) (length front) ns ≡ settled_nodes e ms ns c
    nodes-placed no_node c front back x = refl
    nodes-placed (one_node (row t ls) ns) c front back x =
        let a : List ℕ = found_indices ms ls c in
        let b : List ℕ = found_indices_nodes ms ns (past ms ls c) in
        let n : length front + references ls ≡ length (front ++ a) = sym (length-append front a ∙ ap (λ (k : ℕ). length front + k) (leaves-long ms ls c x.0)) in
        ap (λ T. one_node (row t (renumbered e ms T (length front) ls)) (renumbered_nodes e ms (front ++ ((a ++ b) ++ back)) (length front + references ls) ns)) (first_part front a b back)
        ∙ ap (λ z. one_node (row t z) (renumbered_nodes e ms (front ++ ((a ++ b) ++ back)) (length front + references ls) ns)) (leaves-placed ls c front (b ++ back) x.0)
        ∙ ap (λ T. one_node (row t (settled e ms ls c)) (renumbered_nodes e ms T (length front + references ls) ns)) (next_part front a b back)
        ∙ ap (λ (k : ℕ). one_node (row t (settled e ms ls c)) (renumbered_nodes e ms ((front ++ a) ++ (b ++ back)) k ns)) n
        ∙ ap (λ z. one_node (row t (settled e ms ls c)) z) (nodes-placed ns (past ms ls c) (front ++ a) back x.1)

  pub settled_is_renumbered : (ls : Leaves) (c : Counters) → LeavesExpanded ls → renumbered e ms (found_indices ms ls c) 0 ls ≡ settled e ms ls c
  settled_is_renumbered ls c x = ap (λ T. renumbered e ms T 0 ls) (sym (append-nil (found_indices ms ls c))) ∙ leaves-placed ls c [] [] x
