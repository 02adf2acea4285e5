-- Small texts with their own names and offsets: marks, forms, names and first unmet demands, each by computation.
use Rattle.std.proofs.Common.{◌≡◌, ℕ, zero, suc, ◌+◌, [], ◌∷◌, length, replicate, Some, None, refl, ap, ◌∙◌, arith, rules}
use Rattle.std.specs.Prelude.{codes}
use Rattle.std.proofs.lemmas.List.{length-replicate}
use Rattle.comp_model.specs.declared.Space.{Space}
use Rattle.comp_model.specs.declared.Space.TheVariants.{CoreFunc, CoreModule, CoreInstance, Func, Ty, Value, Component, Instance}
use Rattle.comp_model.specs.declared.row.Row.TheVariants as rows
use Rattle.comp_model.specs.Makers as make
use Rattle.comp_model.specs.Core as core
use Rattle.comp_model.specs.Core.{Text, counted, outward, at_place}
use Rattle.comp_model.specs.Covered.{first_uncovered}
use Rattle.comp_model.specs.CoreModules.{CoreModule as CoreText}
use Rattle.comp_model.specs.Model.{Leaf, text, kind, ref, place, absent, present, node, Target, index, numeral, name, path, inline, bundle, root_name, root_number, export_of, no_leaf, ◌▸◌, Node, row, no_node, one_node, core_source, module_bytes, result_ids, result_count, Defs, no_def, Scope, scope_of}
use Rattle.comp_model.specs.declared.row.ScopeKind.TheVariants as kinds
use Rattle.comp_model.specs.NameMaps.{NameMap}
use Rattle.comp_model.specs.NamesFit.{NamesFit}
use Rattle.comp_model.specs.Origins.{Origins, written, inline_type, bundle_of, inline_export, export_step, outer_alias_of, name_section, no_origins}
use Rattle.comp_model.specs.Weight.{weight}
use Rattle.comp_model.specs.Leb.{leb}
use Rattle.comp_scopes.specs.Form.{plan, form, names_of, alias_node, step_node, export_node, custom_node}
use Rattle.comp_scopes.specs.Unmet.{first_unmet, unmet, Cause, duplicate, unknown, outer_kind, outer_component, outer_count, core_export_kind}
use Rattle.comp_scopes.proofs.Shorthands.{plain_encoding, names, lists, id_at, at, with_id, with_label, exporting_at, bare, component, nested, nested_at, u8, named, list_of, list_at, mark, mark_with, one_entry}
use Rattle.comp_scopes.proofs.Letters.{a, b, c, d, e, f, g, i, m, o, t, v, x}

abbrev s8 : Node
s8 = make.primitive 0x7e

abbrev func : Node
func = make.function_type 0 no_node absent

abbrev import_of : Text → Leaf → Node
import_of y l = row rows.Import (text y ▸ node (row rows.FuncDescription (l ▸ no_leaf)) ▸ no_leaf)

abbrev import_func : Text → Target → Node
import_func y target = make.import_row (text y) (make.described_by rows.FuncDescription target)

abbrev export_of_name : Text → Leaf → Node
export_of_name y l = row rows.Export (text y ▸ absent ▸ l ▸ no_leaf)

-- the names of one space: the item with this index
abbrev one_name : Space → ℕ → Text → NameMap
one_name s n y = record { space = s; names = record { index = n; name = y } ∷ [] }

-- ---- texts that are encoded

-- (component (import "i" (func)))
abbrev imported : Scope
imported = component (at 12 (import_func i (inline func)) no_def)

imported_plan : plan plain_encoding [] imported ≡ mark (inline_type 0 0) (mark (written 0) no_origins)
imported_plan = refl

imported_form : form plain_encoding [] imported ≡ component (bare func (bare (import_func i (index 0)) no_def))
imported_form = refl

-- (component (type (export "t") u8) (type s8)): inline exports stand at the end
abbrev exported : Scope
exported = component (exporting_at 12 (t ∷ []) u8 (at 35 s8 no_def))

exported_plan : plan plain_encoding [] exported ≡ mark (written 0) (mark (written 1) (mark (inline_export 0 0) no_origins))
exported_plan = refl

exported_form : form plain_encoding [] exported ≡ component (bare u8 (bare s8 (bare (export_node t Ty 0) no_def)))
exported_form = refl

-- (component (type $t u8) (component (type (list $t)) (type (list $t)))): both names share an alias
abbrev outer_names : Scope
outer_names = component (with_id 12 17 t u8 (at 25 (nested (at 36 (list_of (named 47 Ty t)) (at 53 (list_of (named 64 Ty t)) no_def))) no_def))

outer_names_plan : plan plain_encoding [] outer_names
    ≡ mark (written 0) (mark_with (written 1) (mark (outer_alias_of 0 0) (mark (written 0) (mark (written 1) no_origins))) (mark name_section no_origins))
outer_names_plan = refl

outer_names_form : form plain_encoding [] outer_names ≡ component (bare u8 (bare (nested (bare (alias_node 1 Ty 0) (bare (list_at 0) (bare (list_at 0) no_def)))) (names (0x01 ∷ 0x05 ∷ 0x03 ∷ 0x01 ∷ 0x00 ∷ 0x01 ∷ 0x74 ∷ []) no_def)))
unfolding leb
outer_names_form = refl

outer_names_names : names_of [] outer_names ≡ record { component = None; maps = one_name Ty 0 t ∷ [] }
outer_names_names = refl

-- (component (component $c) (instance $i (instantiate $c)) (export "x" (func $i "a" "b"))): a path of two steps
abbrev two_steps : Scope
two_steps = component (with_id 12 22 c (nested_at 22 c no_def) (with_id 27 36 i (make.instantiate (name outward (id_at 52 c)) no_node)
    (at 58 (export_of_name x (ref Func (path (export_of (export_of (root_name (id_at 75 i)) a) b)))) no_def)))

two_steps_plan : plan plain_encoding [] two_steps
    ≡ mark_with (written 0) (mark name_section no_origins) (mark (written 1) (mark (export_step 2 0 0) (mark (export_step 2 0 1) (mark (written 2) (mark name_section no_origins)))))
two_steps_plan = refl

two_steps_form : form plain_encoding [] two_steps
    ≡ component (bare (nested (names (0x00 ∷ 0x02 ∷ 0x01 ∷ 0x63 ∷ []) no_def)) (bare (make.instantiate (index 0) no_node) (bare (step_node 0 a Instance) (bare (step_node 1 b Func) (bare (export_node x Func 0) (names (0x01 ∷ 0x05 ∷ 0x04 ∷ 0x01 ∷ 0x00 ∷ 0x01 ∷ 0x63 ∷ 0x01 ∷ 0x05 ∷ 0x05 ∷ 0x01 ∷ 0x00 ∷ 0x01 ∷ 0x69 ∷ []) no_def))))))
unfolding leb
two_steps_form = refl

two_steps_names : names_of [] two_steps ≡ record { component = None; maps = one_name Component 0 c ∷ one_name Instance 0 i ∷ [] }
two_steps_names = refl

two_steps_named : NamesFit two_steps
two_steps_named = search rules

-- (component (type $a (list $b)) (type $b u8)): a forward reference
abbrev forward : Scope
forward = component (with_id 12 17 a (list_of (named 26 Ty b)) (with_id 32 37 b u8 no_def))

forward_plan : plan plain_encoding [] forward ≡ mark (written 0) (mark (written 1) (mark name_section no_origins))
forward_plan = refl

forward_form : form plain_encoding [] forward ≡ component (bare (list_at 1) (bare u8 (names (0x01 ∷ 0x08 ∷ 0x03 ∷ 0x02 ∷ 0x00 ∷ 0x01 ∷ 0x61 ∷ 0x01 ∷ 0x01 ∷ 0x62 ∷ []) no_def)))
unfolding leb
forward_form = refl

forward_names : names_of [] forward ≡ record { component = None; maps = record { space = Ty; names = record { index = 0; name = a } ∷ record { index = 1; name = b } ∷ [] } ∷ [] }
forward_names = refl

-- (component (type $a (list $a))): a type that names itself
abbrev itself : Scope
itself = component (with_id 12 17 a (list_of (named 26 Ty a)) no_def)

itself_plan : plan plain_encoding [] itself ≡ mark (written 0) (mark name_section no_origins)
itself_plan = refl

itself_form : form plain_encoding [] itself ≡ component (bare (list_at 0) (names (0x01 ∷ 0x05 ∷ 0x03 ∷ 0x01 ∷ 0x00 ∷ 0x01 ∷ 0x61 ∷ []) no_def))
unfolding leb
itself_form = refl

itself_names : names_of [] itself ≡ record { component = None; maps = record { space = Ty; names = record { index = 0; name = a } ∷ [] } ∷ [] }
itself_names = refl

-- (component (import "i" (func)) (type u8) (export "t" (type 0))): the numeral stays, and counts the type of the import
abbrev numeral_stays : Scope
numeral_stays = component (at 12 (import_func i (inline func)) (at 32 u8 (at 42 (export_of_name t (ref Ty (numeral 59 0))) no_def)))

numeral_stays_plan : plan plain_encoding [] numeral_stays ≡ mark (inline_type 0 0) (mark (written 0) (mark (written 1) (mark (written 2) no_origins)))
numeral_stays_plan = refl

numeral_stays_form : form plain_encoding [] numeral_stays ≡ component (bare func (bare (import_func i (index 0)) (bare u8 (bare (export_node t Ty 0) no_def))))
numeral_stays_form = refl

-- (component (type (list 1)) (type u8))
abbrev ahead : Scope
ahead = component (at 12 (list_of (ref Ty (numeral 23 1))) (at 28 u8 no_def))

ahead_plan : plan plain_encoding [] ahead ≡ mark (written 0) (mark (written 1) no_origins)
ahead_plan = refl

ahead_form : form plain_encoding [] ahead ≡ component (bare (list_at 1) (bare u8 no_def))
ahead_form = refl

-- (component (type $t u8) (component (type (list $t)) (type $t s8))): the later inner declaration is meant
abbrev hidden : Scope
hidden = component (with_id 12 17 t u8 (at 25 (nested (at 36 (list_of (named 47 Ty t)) (with_id 53 58 t s8 no_def))) no_def))

hidden_plan : plan plain_encoding [] hidden ≡ mark (written 0) (mark_with (written 1) (mark (written 0) (mark (written 1) (mark name_section no_origins))) (mark name_section no_origins))
hidden_plan = refl

hidden_form : form plain_encoding [] hidden ≡ component (bare u8 (bare (nested (bare (list_at 1) (bare s8 (names (0x01 ∷ 0x05 ∷ 0x03 ∷ 0x01 ∷ 0x01 ∷ 0x01 ∷ 0x74 ∷ []) no_def)))) (names (0x01 ∷ 0x05 ∷ 0x03 ∷ 0x01 ∷ 0x00 ∷ 0x01 ∷ 0x74 ∷ []) no_def)))
unfolding leb
hidden_form = refl

-- (component (import "a" (func)) (import "b" (func))): an equal inline type is reused
abbrev two_imports : Scope
two_imports = component (at 12 (import_func a (inline func)) (at 32 (import_func b (inline func)) no_def))

two_imports_plan : plan plain_encoding [] two_imports ≡ mark (inline_type 0 0) (mark (written 0) (mark (written 1) no_origins))
two_imports_plan = refl

two_imports_form : form plain_encoding [] two_imports ≡ component (bare func (bare (import_func a (index 0)) (bare (import_func b (index 0)) no_def)))
two_imports_form = refl

abbrev core_func : Node
core_func = make.core_function_type no_node no_node

abbrev module_import : Text → Target → Node
module_import y target = make.module_import a y (make.func_entity target)

abbrev module_type : Defs → Node
module_type ds = make.module_type (scope_of kinds.ModuleType None None ds)

-- (component (core type (module (import "a" "b" (func)) (import "a" "c" (func))))): nor are signatures of a module type
abbrev two_signatures : Scope
two_signatures = component (at 12 (module_type (at 31 (module_import b (inline core_func)) (at 55 (module_import c (inline core_func)) no_def))) no_def)

two_signatures_plan : plan plain_encoding [] two_signatures ≡ mark_with (written 0) (mark (inline_type 0 0) (mark (written 0) (mark (inline_type 1 0) (mark (written 1) no_origins)))) no_origins
two_signatures_plan = refl

two_signatures_form : form plain_encoding [] two_signatures ≡ component (bare (module_type (bare core_func (bare (module_import b (index 0)) (bare core_func (bare (module_import c (index 1)) no_def))))) no_def)
two_signatures_form = refl

-- (component (core type (module (type (func)) (import "a" "b" (func))))): but a written function type is used again
abbrev type_used_again : Scope
type_used_again = component (at 12 (module_type (at 31 core_func (at 45 (module_import b (inline core_func)) no_def))) no_def)

type_used_again_plan : plan plain_encoding [] type_used_again ≡ mark_with (written 0) (mark (written 0) (mark (written 1) no_origins)) no_origins
type_used_again_plan = refl

type_used_again_form : form plain_encoding [] type_used_again ≡ component (bare (module_type (bare core_func (bare (module_import b (index 0)) no_def))) no_def)
type_used_again_form = refl

-- (component (core module $m) (core func $f (canon resource.drop 0)) (core instance (instantiate $m (with "e" (instance (export "d" (func $f)))))))
abbrev empty_module : CoreText
empty_module = record { naming = record { id = Some (id_at 24 m); label = None }; fields = [] }

abbrev exporting_d : Target → Node
exporting_d target = make.core_bundle (one_node (make.core_bundle_export d CoreFunc target) no_node)

abbrev with_e : Target → Target → Node
with_e source target = make.core_instantiate source (one_node (make.core_argument e target) no_node)

abbrev core_bundled : Scope
core_bundled = component (with_id 12 24 m (make.core_module (core_source empty_module)) (with_id 29 39 f (make.of_type rows.ResourceDrop (numeral 63 0))
    (at 68 (with_e (name outward (id_at 95 m)) (bundle (exporting_d (name outward (id_at 136 f))))) no_def)))

core_bundled_plan : plan plain_encoding [] core_bundled ≡ mark (written 0) (mark (written 1) (mark (bundle_of 2 1) (mark (written 2) (mark name_section no_origins))))
core_bundled_plan = refl

core_bundled_form : form plain_encoding [] core_bundled
    ≡ component (bare (make.core_module (module_bytes (1 ∷ []))) (bare (make.of_type rows.ResourceDrop (index 0)) (bare (exporting_d (index 0)) (bare (with_e (index 0) (index 0)) (names (0x01 ∷ 0x06 ∷ 0x00 ∷ 0x00 ∷ 0x01 ∷ 0x00 ∷ 0x01 ∷ 0x66 ∷ 0x01 ∷ 0x06 ∷ 0x00 ∷ 0x11 ∷ 0x01 ∷ 0x00 ∷ 0x01 ∷ 0x6d ∷ []) no_def)))))
unfolding leb
core_bundled_form = refl

core_bundled_names : names_of [] core_bundled ≡ record { component = None; maps = one_name CoreFunc 0 f ∷ one_name CoreModule 0 m ∷ [] }
core_bundled_names = refl

-- (component (import "f" (func $f (result u8))) (start $f (result (value $v))) (export "o" (value $v)))
abbrev gives_u8 : Node
gives_u8 = make.function_type 0 no_node (present (Leaf.number 0x7d))

abbrev started : Scope
started = component (with_id 12 29 f (import_func f (inline gives_u8)) (with_id 47 71 v (make.start (name outward (id_at 53 f)) no_node (result_ids (Some (id_at 71 v) ∷ [])))
    (at 78 (export_of_name o (named 96 Value v)) no_def)))

started_plan : plan plain_encoding [] started ≡ mark (inline_type 0 0) (mark (written 0) (mark (written 1) (mark (written 2) (mark name_section no_origins))))
started_plan = refl

started_form : form plain_encoding [] started ≡ component (bare gives_u8 (bare (import_func f (index 0)) (bare (make.start (index 0) no_node (result_count 1)) (bare (export_node o Value 0) (names (0x01 ∷ 0x05 ∷ 0x01 ∷ 0x01 ∷ 0x00 ∷ 0x01 ∷ 0x66 ∷ 0x01 ∷ 0x05 ∷ 0x02 ∷ 0x01 ∷ 0x00 ∷ 0x01 ∷ 0x76 ∷ []) no_def)))))
unfolding leb
started_form = refl

started_names : names_of [] started ≡ record { component = None; maps = one_name Func 0 f ∷ one_name Value 0 v ∷ [] }
started_names = refl

-- (component (type (stream (future))))
abbrev streamed : Scope
streamed = component (at 12 (make.stream_type (present (ref Ty (inline (make.future_type absent))))) no_def)

streamed_plan : plan plain_encoding [] streamed ≡ mark (inline_type 0 0) (mark (written 0) no_origins)
streamed_plan = refl

streamed_form : form plain_encoding [] streamed ≡ component (bare (make.future_type absent) (bare (make.stream_type (present (ref Ty (index 0)))) no_def))
streamed_form = refl

-- (component (func $f (@name "g") (import "i"))): the label is the name
abbrev labelled : Scope
labelled = component (with_label 12 17 f g (import_of i (ref Ty (inline func))) no_def)

labelled_plan : plan plain_encoding [] labelled ≡ mark (inline_type 0 0) (mark (written 0) (mark name_section no_origins))
labelled_plan = refl

labelled_form : form plain_encoding [] labelled ≡ component (bare func (bare (import_of i (ref Ty (index 0))) (names (0x01 ∷ 0x05 ∷ 0x01 ∷ 0x01 ∷ 0x00 ∷ 0x01 ∷ 0x67 ∷ []) no_def)))
unfolding leb
labelled_form = refl

labelled_names : names_of [] labelled ≡ record { component = None; maps = record { space = Func; names = record { index = 0; name = g } ∷ [] } ∷ [] }
labelled_names = refl

-- (component (alias outer 9 9 (type))): numerals go unchecked
abbrev outward_by_numerals : Scope
outward_by_numerals = component (at 12 (make.alias_outer (counted 12 9) (numeral 26 9) Ty) no_def)

outward_by_numerals_plan : plan plain_encoding [] outward_by_numerals ≡ mark (written 0) no_origins
outward_by_numerals_plan = refl

outward_by_numerals_form : form plain_encoding [] outward_by_numerals ≡ component (bare (alias_node 9 Ty 9) no_def)
outward_by_numerals_form = refl

-- (component (type (list 4294967295))): the greatest index
abbrev greatest : Scope
greatest = component (at 12 (list_of (ref Ty (numeral 23 4294967295))) no_def)

greatest_plan : plan plain_encoding [] greatest ≡ mark (written 0) no_origins
greatest_plan = refl

greatest_form : form plain_encoding [] greatest ≡ component (bare (list_at 4294967295) no_def)
greatest_form = refl

-- (component (core func (canon lower (func 0) (realloc (func 0)))))
abbrev lowering : Leaf → Leaf → Node
lowering l r = row rows.Lower (l ▸ one_entry (row rows.OptionRealloc (r ▸ no_leaf)) ▸ no_leaf)

abbrev lowered : Scope
lowered = component (at 12 (lowering (ref Func (numeral 41 0)) (ref CoreFunc (numeral 59 0))) no_def)

lowered_plan : plan plain_encoding [] lowered ≡ mark (written 0) no_origins
lowered_plan = refl

lowered_form : form plain_encoding [] lowered ≡ component (bare (lowering (ref Func (index 0)) (ref CoreFunc (index 0))) no_def)
lowered_form = refl

-- n types from index k on, each a list of the one before; and the marks of n inline types, the innermost first
abbrev list_types : ℕ → ℕ → Defs
list_types zero k = no_def
list_types (suc n) k = bare (list_at k) (list_types n (suc k))

abbrev list_marks : ℕ → Origins
list_marks zero = mark (written 0) no_origins
list_marks (suc n) = mark (inline_type 0 n) (list_marks n)

-- (component (type (list (list .. u8 ..)))), with 98 lists
lists_form : form plain_encoding [] (component (at 12 (lists 97) no_def)) ≡ component (bare (lists 0) (list_types 97 0))
lists_form = refl

lists_plan : plan plain_encoding [] (component (at 12 (lists 97) no_def)) ≡ list_marks 97
lists_plan = refl

-- (component (@custom "x" "aaa..")): the weight of any payload; and the two that reach the limit and pass it
abbrev custom_text : Text → Scope
custom_text payload = component (at 12 (custom_node x payload) no_def)

custom_form : (payload : Text) → form plain_encoding [] (custom_text payload) ≡ component (bare (custom_node x payload) no_def)
custom_form payload = refl

custom_plan : (payload : Text) → plan plain_encoding [] (custom_text payload) ≡ mark (written 0) no_origins
custom_plan payload = refl

custom_weight : (payload : Text) → weight (λ m. 0) (custom_text payload) ≡ length payload + 161
custom_weight payload = omega arith

-- n letters
custom_of : (n : ℕ) → weight (λ m. 0) (custom_text (replicate n 0x61)) ≡ n + 161
custom_of n = custom_weight (replicate n 0x61) ∙ ap (λ k. k + 161) (length-replicate n 0x61)

at_the_limit : weight (λ m. 0) (custom_text (replicate 67_108_703 0x61)) ≡ 67_108_864
at_the_limit = custom_of 67_108_703

past_the_limit : weight (λ m. 0) (custom_text (replicate 67_108_704 0x61)) ≡ 67_108_865
past_the_limit = custom_of 67_108_704

-- ---- texts that are refused

abbrev refused : Scope → Cause → ℕ → Type 0
refused s c o = first_unmet plain_encoding [] s ≡ unmet c o

-- (component (import "f" (func $f)) (component (export "g" (func $f))))
function_outward : refused (component (with_id 12 29 f (import_of f (ref Ty (inline func))) (at 35 (nested (at 46 (export_of_name g (named 63 Func f)) no_def)) no_def))) outer_kind 63
function_outward = refl

abbrev empty_instance : Node
empty_instance = make.instance_type (scope_of kinds.InstanceType None None no_def)

abbrev beside_instance : Node → Scope
beside_instance n = component (with_id 12 33 i (make.import_row (text i) (make.described_by rows.InstanceDescription (inline empty_instance))) (at 39 (nested (at 50 n no_def)) no_def))

-- (component (import "i" (instance $i)) (component (export "g" (func $i "a")))), and the same with (alias export $i "a" (func)) in it
root_outward : refused (beside_instance (export_of_name g (ref Func (path (export_of (root_name (id_at 67 i)) a))))) unknown 67
root_outward = refl

instance_outward : refused (beside_instance (row rows.AliasExport (named 63 Instance i ▸ text a ▸ kind Func ▸ no_leaf))) outer_kind 63
instance_outward = refl

abbrev alias_at : core.Place → ℕ → Node
alias_at p o = row rows.AliasOuter (place p ▸ ref Ty (name (at_place p) (id_at o x)) ▸ kind Ty ▸ no_leaf)

-- (component $a (component (alias outer 2 $x (type)))), and (component (component (alias outer $q $x (type))))
past_the_root : refused (scope_of kinds.Component (Some (id_at 11 a)) None (at 15 (nested (at 26 (alias_at (counted 26 2) 40) no_def)) no_def)) outer_count 26
past_the_root = refl

no_such_scope : refused (component (at 12 (nested (at 23 (alias_at (core.named 23 (id_at 35 (codes "q"))) 38) no_def)) no_def)) outer_component 23
no_such_scope = refl

-- (component (type $t u8) (type $t s8)), and (component (type (variant (case $a "x") (case $a "y"))))
two_types : refused (component (with_id 12 17 t u8 (with_id 25 30 t s8 no_def))) duplicate 30
two_types = refl

two_cases : refused (component (at 12 (make.variant_type (one_node (make.case_type (Some (id_at 32 a)) x absent) (one_node (make.case_type (Some (id_at 46 a)) (codes "y") absent) no_node))) no_def)) duplicate 46
two_cases = refl

-- (component (type (list $x)))
no_such_type : refused (component (at 12 (list_of (named 23 Ty x)) no_def)) unknown 23
no_such_type = refl

-- (component (core instance (instantiate 0 (with "a" (instance 0 "x")))))
export_of_core_instance : refused (component (at 12 (row rows.CoreInstantiate (ref CoreModule (numeral 39 0) ▸ one_entry (row rows.CoreArgument (text a ▸ ref CoreInstance (path (export_of (root_number 61 0) x)) ▸ no_leaf)) ▸ no_leaf)) no_def)) core_export_kind 61
export_of_core_instance = refl

-- (component (import "a" (implements "x") (func))): a form that is read and never written, held by the import
attributed : first_uncovered (λ m. None) (component (at 12 (make.import_row (node (row rows.AttributedName (text a ▸ present (text x) ▸ absent ▸ absent ▸ no_leaf))) (make.described_by rows.FuncDescription (inline func))) no_def)) ≡ Some (record { row = 1; offset = 12 })
attributed = refl
