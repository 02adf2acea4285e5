-- Instance types and types in types, the order of the searches, what a change of a definition would not keep, and a resolved list, each by
-- computation.
use Rattle.std.proofs.Common.{◌≡◌, false, [], ◌∷◌, Some, None, refl}
use Rattle.std.specs.List.{filter}
use Rattle.comp_model.specs.declared.Space.TheVariants.{CoreFunc, CoreType, CoreModule, Func, Ty, Component, Instance, Value}
use Rattle.comp_model.specs.declared.row.Row.TheVariants as rows
use Rattle.comp_model.specs.Core.{counted, at_place}
use Rattle.comp_model.specs.Core as core
use Rattle.comp_model.specs.Model.{Leaf, text, number, kind, ref, place, absent, node, nodes, core_source, module_bytes, scope, index, numeral, name, path, inline, bundle, root_name, export_of, no_leaf, ◌▸◌, Node, row, no_node, one_node, define, Defs, no_def, one_def, Scope, scope_of, result_ids, result_count}
use Rattle.comp_model.specs.declared.row.ScopeKind.TheVariants as kinds
use Rattle.comp_model.specs.Origins.{written, inline_type, bundle_of, no_origins, inline_export, outer_alias_of, name_section}
use Rattle.comp_model.specs.Spaces.{all_spaces}
use Rattle.comp_model.specs.ItemNames.{has_names}
use Rattle.comp_model.specs.Leb.{leb}
use Rattle.comp_scopes.specs.Names.{depth_of}
use Rattle.comp_scopes.specs.Signatures.{reused_signature}
use Rattle.comp_scopes.specs.Resolved.{binary_of, list_names}
use Rattle.comp_scopes.specs.Form.{plan, form, names_of, alias_node, export_node}
use Rattle.comp_scopes.specs.Renaming.{exchanged, exchanged_names}
use Rattle.comp_scopes.specs.Rule.{reaches_out}
use Rattle.comp_scopes.specs.Unmet.{first_unmet, unmet, unknown, outer_kind, outer_count, duplicate}
use Rattle.comp_scopes.proofs.Shorthands.{plain_encoding, names, id_at, def, def_at, bare, component, nested, u8, named, list_of, list_at, mark, mark_with, one_entry, exported, nested_as}
use Rattle.comp_scopes.proofs.Letters.{a, c, f, i, m, t, v, x}

abbrev func : Node
func = row rows.FunctionType (number 0 ▸ nodes no_node ▸ absent ▸ no_leaf)

abbrev cfunc : Node
cfunc = row rows.CoreFunctionType (nodes no_node ▸ nodes no_node ▸ no_leaf)

-- (instance (import "i") (export "f" (func)))
abbrev itype : Defs → Node
itype ds = row rows.InstanceType (scope (scope_of kinds.InstanceType None None ds) ▸ no_leaf)

abbrev instance_import : Scope
instance_import = component (bare (row rows.Import (text i ▸ node (row rows.InstanceDescription (ref Ty (inline (itype (bare (row rows.ExportType (text f ▸ node (row rows.FuncDescription (ref Ty (inline func) ▸ no_leaf)) ▸ no_leaf)) no_def))) ▸ no_leaf)) ▸ no_leaf)) no_def)

instance_import_form : form plain_encoding [] instance_import ≡ component (bare (itype (bare func (bare (row rows.ExportType (text f ▸ node (row rows.FuncDescription (ref Ty (index 0) ▸ no_leaf)) ▸ no_leaf)) no_def))) (bare (row rows.Import (text i ▸ node (row rows.InstanceDescription (ref Ty (index 0) ▸ no_leaf)) ▸ no_leaf)) no_def))
instance_import_form = refl

-- (component (component) (instance (instantiate 0 (with "a" (instance)))))
empty_bundle : plan plain_encoding [] (component (bare (nested no_def) (bare (row rows.Instantiate (ref Component (numeral 0 0) ▸ one_entry (row rows.Argument (text a ▸ ref Instance (bundle (row rows.Bundle (nodes no_node ▸ no_leaf))) ▸ no_leaf)) ▸ no_leaf)) no_def)))
    ≡ mark_with (written 0) no_origins (mark (bundle_of 1 1) (mark (written 1) no_origins))
empty_bundle = refl

-- a type: (tuple (list u8) (list u8))
abbrev lone : Leaf → Node
lone l = row rows.LoneType (l ▸ no_leaf)

types_in_types : plan plain_encoding [] (component (bare (row rows.TupleType (nodes (one_node (lone (ref Ty (inline (list_of (number 0x7d))))) (one_node (lone (ref Ty (inline (list_of (number 0x7d))))) no_node)) ▸ no_leaf)) no_def))
    ≡ mark (inline_type 0 0) (mark (written 0) no_origins)
types_in_types = refl

-- a type scope with names has no name section
type_scope_unnamed : form plain_encoding [] (component (bare (row rows.InstanceType (scope (scope_of kinds.InstanceType (Some (id_at 0 a)) None (def t u8 no_def)) ▸ no_leaf)) no_def)) ≡ component (bare (itype (bare u8 no_def)) no_def)
type_scope_unnamed = refl

-- the order of the searches
roots_first : first_unmet plain_encoding [] (component (bare (row rows.Lift (named 10 Ty t ▸ ref CoreFunc (path (export_of (root_name (id_at 20 i)) t)) ▸ nodes no_node ▸ no_leaf)) no_def)) ≡ unmet unknown 20
roots_first = refl

inline_first : first_unmet plain_encoding [] (component (bare (row rows.TupleType (nodes (one_node (lone (named 10 Ty t)) (one_node (lone (ref Ty (inline (list_of (named 20 Ty t))))) no_node)) ▸ no_leaf)) no_def)) ≡ unmet unknown 20
inline_first = refl

kinds_before_unknown : first_unmet plain_encoding [] (component (def f func (def t (row rows.Bundle (nodes no_node ▸ no_leaf)) (bare (nested (bare (list_of (named 10 Ty x)) (bare (row rows.Export (text t ▸ absent ▸ named 20 Instance t ▸ no_leaf)) no_def))) no_def)))) ≡ unmet outer_kind 20
kinds_before_unknown = refl

-- the kinds of an inner scope come in its place, behind an unknown name of an earlier definition of the outer scope
inner_kinds_late : first_unmet plain_encoding [] (component (def t (row rows.Bundle (nodes no_node ▸ no_leaf)) (bare (list_of (named 10 Ty x)) (bare (nested (bare (row rows.Export (text t ▸ absent ▸ named 20 Instance t ▸ no_leaf)) no_def)) no_def)))) ≡ unmet unknown 10
inner_kinds_late = refl

-- bundle: its own names come before those of the definition
bundle_first : first_unmet plain_encoding [] (component (bare (row rows.Instantiate (named 10 Component c ▸ one_entry (row rows.Argument (text t ▸ ref Instance (bundle (row rows.Bundle (one_entry (row rows.BundleExport (text x ▸ named 20 Func f ▸ no_leaf)) ▸ no_leaf))) ▸ no_leaf)) ▸ no_leaf)) no_def)) ≡ unmet unknown 20
bundle_first = refl

-- a further row
count_past_the_root : first_unmet plain_encoding [] (scope_of kinds.Component (Some (id_at 0 a)) None (bare (nested (bare (row rows.AliasOuter (place (counted 26 2) ▸ ref Ty (name (at_place (counted 26 2)) (id_at 40 x)) ▸ kind Ty ▸ no_leaf)) no_def)) no_def)) ≡ unmet outer_count 26
count_past_the_root = refl

-- ---- what a change of a definition would not keep

-- (component (core rec (type (func)) (type $t (func)))): the second part has index 1
second_part_name : names_of [] (component (one_def (define (record { ids = None ∷ Some (id_at 0 t) ∷ []; labels = []; exports = []; offset = 0 }) (row rows.CoreRec (nodes (one_node cfunc (one_node cfunc no_node)) ▸ no_leaf))) no_def))
    ≡ record { component = None; maps = record { space = CoreType; names = record { index = 1; name = t } ∷ [] } ∷ [] }
second_part_name = refl

-- a signature is reused in a module type alone
not_in_components : reused_signature (component (bare cfunc no_def) ∷ []) 1 rows.CoreFunctionType (nodes no_node ▸ nodes no_node ▸ no_leaf) ≡ None
not_in_components = refl

in_module_types : reused_signature (scope_of kinds.ModuleType None None (bare cfunc no_def) ∷ []) 1 rows.CoreFunctionType (nodes no_node ▸ nodes no_node ▸ no_leaf) ≡ Some 0
in_module_types = refl

-- of two open scopes of one name the innermost is meant
two_of_a_name : depth_of (scope_of kinds.Component None None no_def ∷ scope_of kinds.Component (Some (id_at 0 c)) None no_def ∷ scope_of kinds.Component (Some (id_at 0 c)) None no_def ∷ []) (core.named 0 (id_at 9 c)) ≡ Some 1
two_of_a_name = refl

-- a type scope has no name section, though its definitions have ids
no_names_in_types : has_names (scope_of kinds.InstanceType (Some (id_at 0 a)) None (def t u8 no_def)) ≡ false
no_names_in_types = refl

no_names_in_component_types : has_names (scope_of kinds.ComponentType (Some (id_at 0 a)) None (def t u8 no_def)) ≡ false
no_names_in_component_types = refl

no_names_in_module_types : has_names (scope_of kinds.ModuleType (Some (id_at 0 a)) None (def t cfunc no_def)) ≡ false
no_names_in_module_types = refl

-- a generated id is no name
generated_unnamed : has_names (component (one_def (define (record { ids = Some (record { name = []; number = 3; offset = 0 }) ∷ []; labels = []; exports = []; offset = 0 }) u8) no_def)) ≡ false
generated_unnamed = refl

-- ---- two definitions with inline exports: all exports stand at the end, those of the first in front, each with the index of its own

-- (component (type (export "t") u8) (type (export "a") (export "f") u8))
abbrev two_exporting : Scope
two_exporting = component (exported (t ∷ []) u8 (exported (a ∷ f ∷ []) u8 no_def))

two_exporting_form : form plain_encoding [] two_exporting ≡ component (bare u8 (bare u8 (bare (export_node t Ty 0) (bare (export_node a Ty 1) (bare (export_node f Ty 1) no_def)))))
two_exporting_form = refl

two_exporting_plan : plan plain_encoding [] two_exporting ≡ mark (written 0) (mark (written 1) (mark (inline_export 0 0) (mark (inline_export 1 0) (mark (inline_export 1 1) no_origins))))
two_exporting_plan = refl

-- ---- a bundle and an outer alias in one definition: the bundle stands in front

-- (component (component $c) (component (instance (instantiate $c (with "t" (instance))))))
abbrev instantiated : Leaf → Leaf → Node
instantiated source argument = row rows.Instantiate (source ▸ one_entry (row rows.Argument (text t ▸ argument ▸ no_leaf)) ▸ no_leaf)

abbrev bundle_and_alias : Scope
bundle_and_alias = component (def c (nested_as c no_def) (bare (nested (bare (instantiated (named 0 Component c) (ref Instance (bundle (row rows.Bundle (nodes no_node ▸ no_leaf))))) no_def)) no_def))

bundle_and_alias_plan : plan plain_encoding [] bundle_and_alias
    ≡ mark_with (written 0) (mark name_section no_origins) (mark_with (written 1) (mark (bundle_of 0 1) (mark (outer_alias_of 0 0) (mark (written 0) no_origins))) (mark name_section no_origins))
bundle_and_alias_plan = refl

bundle_and_alias_form : form plain_encoding [] bundle_and_alias
    ≡ component (bare (nested (names (0x00 ∷ 0x02 ∷ 0x01 ∷ 0x63 ∷ []) no_def))
    (bare (nested (bare (row rows.Bundle (nodes no_node ▸ no_leaf)) (bare (alias_node 1 Component 0) (bare (instantiated (ref Component (index 0)) (ref Instance (index 0))) no_def))))
    (names (0x01 ∷ 0x05 ∷ 0x04 ∷ 0x01 ∷ 0x00 ∷ 0x01 ∷ 0x63 ∷ []) no_def)))
unfolding leb
bundle_and_alias_form = refl

-- ---- the spaces whose names reach past their own scope (Component Model, Explainer.md, Alias Definitions)
spaces_that_reach_out : filter reaches_out all_spaces ≡ CoreType ∷ CoreModule ∷ Ty ∷ Component ∷ []
spaces_that_reach_out = refl

-- an id that stands twice, behind a name that may not reach: of one scope the duplicate comes first
duplicate_first : first_unmet plain_encoding [] (component (def f (row rows.Bundle (nodes no_node ▸ no_leaf)) (bare (nested (bare (row rows.Export (text t ▸ absent ▸ named 20 Instance f ▸ no_leaf)) (def_at 30 t u8 (def_at 40 t u8 no_def)))) no_def))) ≡ unmet duplicate 40
duplicate_first = refl

-- ---- a resolved list as a binary scope

abbrev resolved : Scope
resolved = scope_of kinds.Component (Some (id_at 0 c)) None (def t (list_of (ref Ty (numeral 8 3)))
    (def_at 30 m (row rows.CoreModule (core_source (record { naming = record { id = Some (id_at 30 m); label = None }; fields = [] }) ▸ no_leaf))
    (one_def (define (record { ids = None ∷ Some (id_at 44 v) ∷ []; labels = []; exports = []; offset = 36 }) (row rows.Start (ref Func (numeral 40 0) ▸ nodes no_node ▸ result_ids (None ∷ Some (id_at 44 v) ∷ []) ▸ no_leaf))) no_def)))

resolved_binary : binary_of plain_encoding resolved ≡ component (bare (list_at 3) (bare (row rows.CoreModule (module_bytes (1 ∷ []) ▸ no_leaf)) (bare (row rows.Start (ref Func (index 0) ▸ nodes no_node ▸ result_count 2 ▸ no_leaf)) (names (0x00 ∷ 0x02 ∷ 0x01 ∷ 0x63 ∷ 0x01 ∷ 0x06 ∷ 0x00 ∷ 0x11 ∷ 0x01 ∷ 0x00 ∷ 0x01 ∷ 0x6d ∷ 0x01 ∷ 0x05 ∷ 0x02 ∷ 0x01 ∷ 0x01 ∷ 0x01 ∷ 0x76 ∷ 0x01 ∷ 0x05 ∷ 0x03 ∷ 0x01 ∷ 0x00 ∷ 0x01 ∷ 0x74 ∷ []) no_def))))
unfolding leb
resolved_binary = refl

resolved_names : list_names resolved
    ≡ record {
      component = Some c;
      maps = record { space = CoreModule; names = record { index = 0; name = m } ∷ [] } ∷ record { space = Value; names = record { index = 1; name = v } ∷ [] } ∷ record { space = Ty; names = record { index = 0; name = t } ∷ [] } ∷ [];
    }
resolved_names = refl

-- ---- two names exchanged

-- (component $a (type $f u8) (type $c (@name "a") u8) (type $a u8)): a and c are exchanged where ids bear them, and not in the label
abbrev borne : Scope
borne = scope_of kinds.Component (Some (id_at 0 a)) None (def f u8 (one_def (define (record { ids = Some (id_at 0 c) ∷ []; labels = Some a ∷ []; exports = []; offset = 0 }) u8) (def a u8 no_def)))

ids_are_exchanged : exchanged_names a c [] borne
    ≡ record { component = Some c; maps = record { space = Ty; names = record { index = 0; name = f } ∷ record { index = 1; name = a } ∷ record { index = 2; name = c } ∷ [] } ∷ [] }
ids_are_exchanged = refl

exchanged_form : form plain_encoding [] (exchanged a c borne)
    ≡ component (bare u8 (bare u8 (bare u8 (names (0x00 ∷ 0x02 ∷ 0x01 ∷ 0x63 ∷ 0x01 ∷ 0x0b ∷ 0x03 ∷ 0x03 ∷ 0x00 ∷ 0x01 ∷ 0x66 ∷ 0x01 ∷ 0x01 ∷ 0x61 ∷ 0x02 ∷ 0x01 ∷ 0x63 ∷ []) no_def))))
unfolding leb
exchanged_form = refl
