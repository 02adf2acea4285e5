-- A scope under a map of its ids, and the exchange of two names.
use Rattle.std.specs.Prelude.{◌≡◌, List, ◌∷◌, map, option_map}
use Rattle.comp_model.specs.Core.{Text, Id}
use Rattle.comp_model.specs.CoreModules.{CoreModule}
use Rattle.comp_model.specs.Renaming.{renamed_core}
pub use Rattle.comp_model.specs.Renaming.{renamed_place, renamed_reach, renamed_value, exchanged_name, exchanged_id}
use Rattle.comp_model.specs.Model.{Leaf, core_value, ref, place, present, node, nodes, case_id, result_ids, core_source, scope, Target, name, Path, root_number, root_name, export_of, path, inline, bundle, Leaves, no_leaf, ◌▸◌, Node, row, Nodes, no_node, one_node, Names, define, Defs, no_def, one_def, Scope, scope_of, defs_of}
use Rattle.comp_model.specs.NameMaps.{NameMaps}
use Rattle.comp_model.specs.ItemNames.{own_name, names_from}
use Rattle.comp_model.specs.Payloads.{name_payload}
use Rattle.comp_model.specs.Spaces.{all_spaces}
use Rattle.comp_scopes.specs.Encoding.{Encoding}
use Rattle.comp_scopes.specs.Plan.{marks}
use Rattle.comp_scopes.specs.Form.{maps_in}

module _ (f : Id → Id) where
  -- in the root of a path
  abbrev pub renamed_path : Path → Path
  renamed_path (root_number o n) = root_number o n
  renamed_path (root_name x) = root_name (f x)
  renamed_path (export_of p t) = export_of (renamed_path p) t

  -- ids alone; labels and export names stay
  abbrev pub renamed_names : Names → Names
  renamed_names ns = record { ids = map (option_map f) ns.ids; labels = ns.labels; exports = ns.exports; offset = ns.offset }

  abbrev mutual
    pub renamed_scope : Scope → Scope
    renamed_scope (scope_of k id label ds) = scope_of k (option_map f id) label (renamed_defs ds)

    pub renamed_defs : Defs → Defs
    renamed_defs no_def = no_def
    renamed_defs (one_def (define names (row t ls)) ds) = one_def (define (renamed_names names) (row t (renamed_leaves ls))) (renamed_defs ds)

    pub renamed_leaves : Leaves → Leaves
    renamed_leaves no_leaf = no_leaf
    renamed_leaves (l ▸ ls) = renamed_leaf l ▸ renamed_leaves ls

    pub renamed_leaf : Leaf → Leaf
    renamed_leaf (core_value v) = core_value (renamed_value f v)
    renamed_leaf (ref s t) = ref s (renamed_target t)
    renamed_leaf (place p) = place (renamed_place f p)
    renamed_leaf (present l) = present (renamed_leaf l)
    renamed_leaf (node n) = node (renamed_node n)
    renamed_leaf (nodes ns) = nodes (renamed_nodes ns)
    renamed_leaf (case_id x) = case_id (option_map f x)
    renamed_leaf (result_ids ids) = result_ids (map (option_map f) ids)
    renamed_leaf (core_source c) = core_source (renamed_core f c)
    renamed_leaf (scope s) = scope (renamed_scope s)
    renamed_leaf l = l

    pub renamed_target : Target → Target
    renamed_target (name r x) = name (renamed_reach f r) (f x)
    renamed_target (path p) = path (renamed_path p)
    renamed_target (inline n) = inline (renamed_node n)
    renamed_target (bundle n) = bundle (renamed_node n)
    renamed_target t = t

    pub renamed_node : Node → Node
    renamed_node (row t ls) = row t (renamed_leaves ls)

    pub renamed_nodes : Nodes → Nodes
    renamed_nodes no_node = no_node
    renamed_nodes (one_node (row t ls) ns) = one_node (row t (renamed_leaves ls)) (renamed_nodes ns)

-- the scope with two names exchanged wherever they are declared or named
abbrev pub exchanged : Text → Text → Scope → Scope
exchanged a b = renamed_scope (exchanged_id a b)

-- the rule on core modules does not hang on the spelling of these two names
abbrev pub RuleBlind : Encoding → Text → Text → Type 0
RuleBlind e a b = (c : CoreModule) → e.core_refusal (renamed_core (exchanged_id a b) c) ≡ e.core_refusal c

-- core modules with these two names exchanged have in e the bytes that d gives them as they are; e itself is such a d where it writes
-- core modules without names
abbrev pub BytesExchanged : Encoding → Encoding → Text → Text → Type 0
BytesExchanged e d a b = (c : CoreModule) → e.core_bytes (renamed_core (exchanged_id a b) c) ≡ d.core_bytes c

-- the names of a component where two names are exchanged: labels stay, and ids of the text are exchanged; of the same items
abbrev pub exchanged_names : Text → Text → List Scope → Scope → NameMaps
exchanged_names a b st s = record { component = own_name (exchanged a b s); maps = maps_in (marks (s ∷ st)) (names_from 0 (defs_of (exchanged a b s))) all_spaces }

-- its name section then
abbrev pub exchanged_payload : Text → Text → List Scope → Scope → Text
exchanged_payload a b st s = name_payload (exchanged_names a b st s)
