-- The weight of a component, by which it is limited: 32 for each scope, definition, node, leaf, path step, inline export and result of a
-- start function, and the lengths of all texts, ids and labels.
use Rattle.std.specs.Prelude.{ℕ, ◌+◌, ◌*◌, List, [], ◌∷◌, length, Option, Some, None}
use Rattle.comp_model.specs.Core.{Text, Id}
use Rattle.comp_model.specs.CoreModules.{CoreModule}
use Rattle.comp_model.specs.Model.{Leaf, text, ref, present, node, nodes, result_ids, result_count, core_source, scope, Path, root_number, root_name, export_of, path, inline, bundle, Leaves, no_leaf, ◌▸◌, row, Nodes, no_node, one_node, Names, define, Defs, no_def, one_def, Scope, scope_of, id_of, label_of}

-- the lengths of labels and of ids, without their `$`
abbrev pub weight_of_label : Option Text → ℕ
weight_of_label None = 0
weight_of_label (Some t) = length t

abbrev pub weight_of_id : Option Id → ℕ
weight_of_id None = 0
weight_of_id (Some x) = length x.name

-- the sum over a list
abbrev pub weight_of_all : {A : Type 0} → (A → ℕ) → List A → ℕ
weight_of_all f [] = 0
weight_of_all f (x ∷ xs) = f x + weight_of_all f xs

-- each export name behind the root of a path
abbrev pub weight_of_path : Path → ℕ
weight_of_path (root_number o n) = 0
weight_of_path (root_name x) = 0
weight_of_path (export_of p t) = 32 + length t + weight_of_path p

-- the ids and labels of the parts of a definition, and its inline export names
abbrev pub weight_of_names : Names → ℕ
weight_of_names ns = weight_of_all weight_of_id ns.ids + weight_of_all weight_of_label ns.labels + weight_of_all (λ t. 32 + length t) ns.exports

-- the weight of the fields of a core module is given
module _ (core_weight : CoreModule → ℕ) where
  abbrev mutual
    pub weight_of_leaf : Leaf → ℕ
    weight_of_leaf (text t) = 32 + length t
    weight_of_leaf (ref s (path p)) = 32 + weight_of_path p
    weight_of_leaf (ref s (inline (row t ls))) = 32 + (32 + weight_of_leaves ls)
    weight_of_leaf (ref s (bundle (row t ls))) = 32 + (32 + weight_of_leaves ls)
    -- an optional part holds a node, or a value as a further leaf
    weight_of_leaf (present (node (row t ls))) = 32 + (32 + weight_of_leaves ls)
    weight_of_leaf (present l) = 32 + weight_of_leaf l
    weight_of_leaf (node (row t ls)) = 32 + (32 + weight_of_leaves ls)
    weight_of_leaf (nodes ns) = 32 + weight_of_nodes ns
    weight_of_leaf (result_ids ids) = 32 + 32 * length ids
    weight_of_leaf (result_count n) = 32 + 32 * n
    weight_of_leaf (core_source c) = 32 + core_weight c
    weight_of_leaf (scope s) = 32 + weight_of_scope s
    weight_of_leaf _ = 32

    pub weight_of_leaves : Leaves → ℕ
    weight_of_leaves no_leaf = 0
    weight_of_leaves (l ▸ ls) = weight_of_leaf l + weight_of_leaves ls

    pub weight_of_nodes : Nodes → ℕ
    weight_of_nodes no_node = 0
    weight_of_nodes (one_node (row t ls) ns) = 32 + weight_of_leaves ls + weight_of_nodes ns

    pub weight_of_defs : Defs → ℕ
    weight_of_defs no_def = 0
    weight_of_defs (one_def (define names (row t ls)) ds) = 32 + weight_of_names names + (32 + weight_of_leaves ls) + weight_of_defs ds

    pub weight_of_scope : Scope → ℕ
    weight_of_scope (scope_of k id label ds) = 32 + weight_of_defs ds

  -- of a whole component, whose own id and label count too
  abbrev pub weight : Scope → ℕ
  weight s = weight_of_scope s + weight_of_id (id_of s) + weight_of_label (label_of s)
