-- The binary scope that a scope becomes, with its marks.
use Rattle.std.specs.Prelude.{ℕ, ◌+◌, Bool, true, false, cond, codes, List, [], ◌∷◌, ◌++◌, length, Option, Some, None}
use Rattle.comp_model.specs.declared.Space.{Space}
use Rattle.comp_model.specs.declared.Space.TheVariants.{CoreFunc, CoreTable, CoreMemory, CoreGlobal, CoreTag, CoreType, CoreModule, CoreInstance, Func, Value, Ty, Component, Instance}
use Rattle.comp_model.specs.declared.row.Row.TheVariants as rows
use Rattle.comp_model.specs.declared.row.Row.{Row}
use Rattle.comp_model.specs.RowNumbers.{same_row}
use Rattle.comp_model.specs.Core.{Text, Place, counted, named, own, CoreValue, ref_index, ref_numeral, ref_name}
use Rattle.comp_model.specs.Model.{Leaf, text, kind, core_value, ref, place, present, node, nodes, case_id, result_ids, result_count, core_source, module_bytes, scope, index, numeral, name, Path, root_number, root_name, export_of, path, inline, bundle, Leaves, no_leaf, ◌▸◌, Node, row, Nodes, no_node, one_node, no_names, define, Defs, no_def, one_def, Scope, scope_of, kind_of}
use Rattle.comp_model.specs.declared.row.ScopeKind.{ScopeKind}
use Rattle.comp_model.specs.Spaces.{declares_row, same_space, all_spaces}
use Rattle.comp_model.specs.NameMaps.{ItemName, NameMap, NameMaps}
use Rattle.comp_model.specs.Origins.{Origin, written, inline_type, bundle_of, inline_export, export_step, outer_alias_of, name_section, Origins, no_origins, origin_then, Held, holds_none, holds}
use Rattle.comp_scopes.specs.Encoding.{Encoding}
use Rattle.comp_scopes.specs.Names.{Denoted, denotes, depth_of}
use Rattle.comp_scopes.specs.References.{references_leaf, references, steps, instance_space}
use Rattle.comp_scopes.specs.Reused.{reused}
use Rattle.comp_scopes.specs.Outward.{leads_out, served}
use Rattle.comp_model.specs.ItemNames.{PartName, names_from, own_name, has_names, name_in_front, map_in_front}
use Rattle.comp_model.specs.Makers as makers
use Rattle.comp_model.specs.Payloads.{name_payload, producers_payload}
use Rattle.comp_scopes.specs.Plan.{Mark, mark, marks, before, item_index}

-- a planned definition: its origin, the marks of a scope in it, its node
pub record Made : Type 0 where
  pub origin : Origin
  pub held : Held
  pub made : Node

-- a definition that holds no scope
abbrev pub make : Origin → Node → Made
make o n = record { origin = o; held = holds_none; made = n }

-- the spaces in which a node declares
abbrev pub spaces_of : Node → List Space
spaces_of (row t ls) = declares_row t ls

-- the mark of a planned definition
abbrev pub mark_of : Made → Mark
mark_of m = mark m.origin (spaces_of m.made)

-- what a part of a node becomes (H), and the definitions that it plans
pub record Formed (H : Type 0) : Type 0 where
  pub inlined : List Made
  pub bundles : List Made
  pub needed : List Made
  pub held : Held
  pub here : H

-- a part that plans nothing
abbrev pub plain : {H : Type 0} → H → Formed H
plain x = record { inlined = []; bundles = []; needed = []; held = holds_none; here = x }

-- a part before whose definition these stand
abbrev pub needing : {H : Type 0} → List Made → H → Formed H
needing ms x = record { inlined = []; bundles = []; needed = ms; held = holds_none; here = x }

-- the same plans, another part
abbrev pub formed_as : {G H : Type 0} → (G → H) → Formed G → Formed H
formed_as f a = record { inlined = a.inlined; bundles = a.bundles; needed = a.needed; held = a.held; here = f a.here }

-- a node holds the marks of one scope at most
abbrev pub held_first : Held → Held → Held
held_first holds_none h = h
held_first (holds o) h = holds o

-- two parts, one behind the other
abbrev pub form_both : {F G H : Type 0} → (F → G → H) → Formed F → Formed G → Formed H
form_both f a b = record { inlined = a.inlined ++ b.inlined; bundles = a.bundles ++ b.bundles; needed = a.needed ++ b.needed; held = held_first a.held b.held; here = f a.here b.here }

-- the definition itself, its node made of its leaves
abbrev pub own_made : Origin → (Leaves → Node) → Formed Leaves → Made
own_made o n a = record { origin = o; held = a.held; made = n a.here }

-- the definitions that a definition or an inline node becomes, the last of which is itself
abbrev pub form_one : Origin → (Leaves → Node) → Formed Leaves → List Made
form_one o n a = a.inlined ++ (a.bundles ++ (a.needed ++ own_made o n a ∷ []))

-- an inline node: the index of the definition that it reuses, or of its own mark
abbrev pub form_inline : List Scope → ℕ → ℕ → Space → Row → Option Origin → Formed Leaves → Formed Leaf
form_inline st k u s t (Some o) a = plain (ref s (index (before s o (marks st))))
form_inline st k u s t None a = record { inlined = form_one (inline_type k u) (row t) a; bundles = []; needed = []; held = holds_none; here = ref s (index (before s (inline_type k u) (marks st))) }

-- a bundle: the index of its own mark
abbrev pub form_bundle : List Scope → ℕ → ℕ → Space → Row → Formed Leaves → Formed Leaf
form_bundle st k u s t a = record {
  inlined = a.inlined;
  bundles = a.bundles ++ (a.needed ++ own_made (bundle_of k u) (row t) a ∷ []);
  needed = [];
  held = holds_none;
  here = ref s (index (before s (bundle_of k u) (marks st)));
}

-- the alias of item i of a space, `depth` scopes outward
abbrev pub alias_node : ℕ → Space → ℕ → Node
alias_node depth s i = row rows.AliasOuter (place (counted 0 depth) ▸ ref s (index i) ▸ kind s ▸ no_leaf)

-- the index of the alias that a name shares, or of its own
abbrev pub form_alias : List Scope → ℕ → ℕ → Space → Denoted → Option Origin → Formed ℕ
form_alias st k u s d (Some o) = plain (before s o (marks st))
form_alias st k u s d None = needing (make (outer_alias_of k u) (alias_node d.depth s (item_index st s d)) ∷ []) (before s (outer_alias_of k u) (marks st))

-- a name that is reference u: the index of an alias where it leads out, else that of the item
abbrev pub form_name : List Scope → ℕ → ℕ → Space → Bool → Option Denoted → Formed ℕ
form_name st k u s out None = plain 0
form_name st k u s false (Some d) = plain (item_index st s d)
form_name st k u s true (Some d) = form_alias st k u s d (served st k u s d)

-- the index of the root of a path
abbrev pub root_index : List Scope → Space → Option Denoted → ℕ
root_index st s None = 0
root_index st s (Some d) = item_index st s d

-- the index of what a path leads to: of its root, or of its last step
abbrev pub path_index : List Scope → ℕ → ℕ → Space → Path → ℕ
path_index st k u s (root_number o n) = n
path_index st k u s (root_name x) = root_index st s (denotes st s own x)
path_index st k u s (export_of p t) = before s (export_step k u (steps p)) (marks st)

-- the row of the alias of an export
abbrev pub step_tag : Space → Row
step_tag CoreFunc = rows.AliasCoreExport
step_tag CoreTable = rows.AliasCoreExport
step_tag CoreMemory = rows.AliasCoreExport
step_tag CoreGlobal = rows.AliasCoreExport
step_tag CoreTag = rows.AliasCoreExport
step_tag CoreType = rows.AliasCoreExport
step_tag CoreInstance = rows.AliasCoreExport
step_tag CoreModule = rows.AliasExport
step_tag Func = rows.AliasExport
step_tag Value = rows.AliasExport
step_tag Ty = rows.AliasExport
step_tag Component = rows.AliasExport
step_tag Instance = rows.AliasExport

-- the alias of the export t of instance i, an item of the space
abbrev pub step_node : ℕ → Text → Space → Node
step_node i t s = row (step_tag s) (ref (instance_space s) (index i) ▸ text t ▸ kind s ▸ no_leaf)

-- the aliases of the export names of a path, from the root outward
abbrev pub form_path : List Scope → ℕ → ℕ → Space → Path → List Made
form_path st k u s (root_number o n) = []
form_path st k u s (root_name x) = []
form_path st k u s (export_of p t) = form_path st k u (instance_space s) p ++ make (export_step k u (steps p)) (step_node (path_index st k u (instance_space s) p) t s) ∷ []

-- a depth as the first part of an outer alias
abbrev pub form_depth : Option ℕ → Place
form_depth None = counted 0 0
form_depth (Some d) = counted 0 d

-- the first part of an outer alias as a depth
abbrev pub form_place : List Scope → Place → Place
form_place st (counted o d) = counted 0 d
form_place st (named o x) = form_depth (depth_of st (named o x))

-- a core value type, which may name a core type
abbrev pub form_value : List Scope → ℕ → ℕ → CoreValue → Formed Leaf
form_value st k u (ref_numeral b o n) = plain (core_value (ref_index b n))
form_value st k u (ref_name b r x) = formed_as (λ i. core_value (ref_index b i)) (form_name st k u CoreType (leads_out r (denotes st CoreType r x)) (denotes st CoreType r x))
form_value st k u v = plain (core_value v)

-- the inline exports of a definition that declares in `ss`
abbrev pub export_node : Text → Space → ℕ → Node
export_node x s i = row rows.Export (text x ▸ Leaf.absent ▸ ref s (index i) ▸ no_leaf)

-- the exports for the inline export names of definition k, from name j on
abbrev pub form_exports_of : List Scope → ℕ → ℕ → List Text → List Space → List Made
form_exports_of st k j [] ss = []
form_exports_of st k j (x ∷ xs) [] = []
form_exports_of st k j (x ∷ xs) (s ∷ ss) = make (inline_export k j) (export_node x s (before s (written k) (marks st))) ∷ form_exports_of st k (j + 1) xs (s ∷ ss)

-- the exports for all inline export names, by definition and then by name
abbrev pub form_exports : List Scope → ℕ → Defs → List Made
form_exports st k no_def = []
form_exports st k (one_def (define names (row t ls)) ds) = form_exports_of st k 0 names.exports (declares_row t ls) ++ form_exports st (k + 1) ds

-- the names of the items of one space, by their indices along the marks
abbrev pub names_in : List Mark → Space → List PartName → List ItemName
names_in ms s [] = []
names_in ms s (n ∷ ns) = name_in_front (same_space s n.space) n.name (before s (written n.definition) ms + n.part) (names_in ms s ns)

-- the names of each of these spaces
abbrev pub maps_in : List Mark → List PartName → List Space → List NameMap
maps_in ms ns [] = []
maps_in ms ns (s ∷ ss) = map_in_front s (names_in ms s ns) (maps_in ms ns ss)

-- the names of a component that stands in `st`: its own, and those of its items
abbrev pub names_of : List Scope → Scope → NameMaps
names_of st (scope_of k id label ds) = record { component = own_name (scope_of k id label ds); maps = maps_in (marks (scope_of k id label ds ∷ st)) (names_from 0 ds) all_spaces }

-- a custom section
abbrev pub custom_node : Text → Text → Node
custom_node x payload = makers.custom x payload

-- the planned definitions without their marks
abbrev pub binary_defs : List Made → Defs
binary_defs [] = no_def
binary_defs (m ∷ ms) = one_def (define no_names m.made) (binary_defs ms)

-- the marks alone
abbrev pub origins_of : List Made → Origins
origins_of [] = no_origins
origins_of (m ∷ ms) = origin_then m.origin m.held (origins_of ms)

-- an inner scope of kind c whose planned definitions are `ms`
abbrev pub form_inner : ScopeKind → List Made → Formed Leaf
form_inner c ms = record { inlined = []; bundles = []; needed = []; held = holds (origins_of ms); here = scope (scope_of c None None (binary_defs ms)) }

module _ (e : Encoding) where
  -- the node of a written definition: of its own row, but for `producers`, which is a custom section
  abbrev pub coded_node : Row → Leaves → Leaves → Node
  coded_node t ls bs = cond (same_row t rows.Producers) (custom_node (codes "producers") (producers_payload ls)) (row t bs)

-- the name section of a component that stands in `st`, where it is due, by what name sections hold
abbrev pub names_with : (List Scope → Scope → Text) → List Scope → Scope → Bool → List Made
names_with payload st s true = make name_section (custom_node (codes "component-name") (payload st s)) ∷ []
names_with payload st s false = []

-- what a scope becomes, whatever name sections hold of a component and the stack in which it stands
module _ (e : Encoding) (payload : List Scope → Scope → Text) where
  abbrev mutual
    pub defs_with : List Scope → ℕ → Defs → List Made
    defs_with st k no_def = []
    defs_with st k (one_def (define names (row t ls)) ds) = form_one (written k) (coded_node e t ls) (leaves_with st k 0 ls) ++ defs_with st (k + 1) ds

    pub leaves_with : List Scope → ℕ → ℕ → Leaves → Formed Leaves
    leaves_with st k u no_leaf = plain no_leaf
    leaves_with st k u (l ▸ ls) = form_both (λ b bs. b ▸ bs) (leaf_with st k u l) (leaves_with st k (u + references_leaf l) ls)

    pub leaf_with : List Scope → ℕ → ℕ → Leaf → Formed Leaf
    leaf_with st k u (core_value v) = form_value st k u v
    leaf_with st k u (ref s (numeral o n)) = plain (ref s (index n))
    leaf_with st k u (ref s (name r x)) = formed_as (λ i. ref s (index i)) (form_name st k u s (leads_out r (denotes st s r x)) (denotes st s r x))
    leaf_with st k u (ref s (path p)) = needing (form_path st k u s p) (ref s (index (path_index st k u s p)))
    leaf_with st k u (ref s (inline (row t ls))) = form_inline st k u s t (reused st k u t ls) (leaves_with st k (u + 1) ls)
    leaf_with st k u (ref s (bundle (row t ls))) = form_bundle st k u s t (leaves_with st k (u + 1) ls)
    leaf_with st k u (place p) = plain (place (form_place st p))
    leaf_with st k u (present l) = formed_as present (leaf_with st k u l)
    leaf_with st k u (node (row t ls)) = formed_as (λ bs. node (row t bs)) (leaves_with st k u ls)
    leaf_with st k u (nodes ns) = formed_as nodes (nodes_with st k u ns)
    leaf_with st k u (case_id x) = plain (case_id None)
    leaf_with st k u (result_ids ids) = plain (result_count (length ids))
    leaf_with st k u (core_source c) = plain (module_bytes (e.core_bytes c))
    leaf_with st k u (scope (scope_of c id label ds)) = form_inner c (defs_with (scope_of c id label ds ∷ st) 0 ds ++ (form_exports (scope_of c id label ds ∷ st) 0 ds ++ names_with payload st (scope_of c id label ds) (has_names (scope_of c id label ds))))
    leaf_with st k u l = plain l

    pub nodes_with : List Scope → ℕ → ℕ → Nodes → Formed Nodes
    nodes_with st k u no_node = plain no_node
    nodes_with st k u (one_node (row t ls) ns) = form_both (λ bs cs. one_node (row t bs) cs) (leaves_with st k u ls) (nodes_with st k (u + references ls) ns)

  -- the planned definitions of a scope that stands in `st`
  abbrev pub built_with : List Scope → Scope → List Made
  built_with st (scope_of c id label ds) = defs_with (scope_of c id label ds ∷ st) 0 ds ++ (form_exports (scope_of c id label ds ∷ st) 0 ds ++ names_with payload st (scope_of c id label ds) (has_names (scope_of c id label ds)))

  -- the marks of the binary scope, with those of the scopes in it
  abbrev pub plan_with : List Scope → Scope → Origins
  plan_with st s = origins_of (built_with st s)

  -- the binary scope
  abbrev pub form_with : List Scope → Scope → Scope
  form_with st s = scope_of (kind_of s) None None (binary_defs (built_with st s))

-- what they hold: the names of the component and of its items
abbrev pub section_payload : List Scope → Scope → Text
section_payload st s = name_payload (names_of st s)

-- what a scope becomes, where they hold that
abbrev pub form_names : List Scope → Scope → Bool → List Made
form_names = names_with section_payload

module _ (e : Encoding) where
  abbrev pub form_defs : List Scope → ℕ → Defs → List Made
  form_defs = defs_with e section_payload

  abbrev pub form_leaves : List Scope → ℕ → ℕ → Leaves → Formed Leaves
  form_leaves = leaves_with e section_payload

  abbrev pub form_leaf : List Scope → ℕ → ℕ → Leaf → Formed Leaf
  form_leaf = leaf_with e section_payload

  abbrev pub form_nodes : List Scope → ℕ → ℕ → Nodes → Formed Nodes
  form_nodes = nodes_with e section_payload

  -- the planned definitions of a scope that stands in `st`
  abbrev pub built : List Scope → Scope → List Made
  built = built_with e section_payload

  -- the marks of the binary scope, with those of the scopes in it
  abbrev pub plan : List Scope → Scope → Origins
  plan = plan_with e section_payload

  -- the binary scope
  abbrev pub form : List Scope → Scope → Scope
  form = form_with e section_payload
