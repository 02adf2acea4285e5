-- Components that the worked rows expand, and ids for what is generated in them.
use Rattle.std.proofs.Common.{ℕ, List, [], ◌∷◌, ◌++◌, Some, None, Bool, false, cond}
use Rattle.std.specs.Prelude.{codes}
use Rattle.comp_model.specs.declared.Space.TheVariants.{CoreType, CoreModule, CoreInstance, Func, Ty, Component, Instance}
use Rattle.comp_model.specs.declared.row.Row.TheVariants as rows
use Rattle.comp_model.specs.Core.{Text, Id, Place, at_place, i32}
use Rattle.comp_model.specs.Core as core
use Rattle.comp_model.specs.Model.{Leaf, text, number, kind, core_value, ref, place, absent, present, node, nodes, scope, name, numeral, path, inline, bundle, root_name, root_number, export_of, no_leaf, ◌▸◌, Node, row, no_node, one_node, define, Defs, no_def, one_def, Scope, scope_of}
use Rattle.comp_model.specs.declared.row.ScopeKind.TheVariants as kinds
use Rattle.comp_model.specs.Origins.{Origin, numbers_of, name_section, same_origin}
use Rattle.comp_expanded.specs.Expansion.{Naming}
use Rattle.comp_scopes.proofs.Shorthands.{id_at, def, def_at, exported, bare, component, nested, u8, named, list_of, one_entry}
use Rattle.comp_scopes.proofs.Letters.{c, i, t, u}
use Rattle.comp_scopes.specs.Unmet.{Cause, unknown, duplicate, outer_kind, outer_component, core_export_kind}

-- ---- ids that are told apart by the marks of their definitions

abbrev numbers_in : List Origin → Text
numbers_in [] = []
numbers_in (o ∷ os) = numbers_of o ++ numbers_in os

abbrev pub id_by : List Origin → Id
id_by p = record { name = numbers_in p; number = 1; offset = 0 }

-- whether the last of these is the mark that stands for a scope itself, which is given none
abbrev of_scope : List Origin → Bool
of_scope [] = false
of_scope (o ∷ []) = same_origin o name_section
of_scope (o ∷ q ∷ p) = of_scope (q ∷ p)

abbrev pub by_marks : Naming
by_marks p = cond (of_scope p) None (Some (id_by p))

-- ---- parts

abbrev pub list_type : Leaf → Leaf
list_type l = ref Ty (inline (list_of l))

abbrev pub tuple_of : Leaf → Leaf → Leaf → Node
tuple_of a b d = row rows.TupleType (nodes (one_node (row rows.LoneType (a ▸ no_leaf)) (one_node (row rows.LoneType (b ▸ no_leaf)) (one_node (row rows.LoneType (d ▸ no_leaf)) no_node))) ▸ no_leaf)

-- (func (param "u" TYPE))
abbrev pub takes : Leaf → Node
takes l = row rows.FunctionType (number 0 ▸ one_entry (row rows.NamedType (text u ▸ l ▸ no_leaf)) ▸ absent ▸ no_leaf)

-- (import "c" (func TYPE))
abbrev pub import_as : Leaf → Node
import_as l = row rows.Import (text c ▸ node (row rows.FuncDescription (l ▸ no_leaf)) ▸ no_leaf)

-- (export "u" (func $x))
abbrev pub export_func : ℕ → Text → Node
export_func o x = row rows.Export (text u ▸ absent ▸ named o Func x ▸ no_leaf)

-- (instantiate $c ARGUMENTS)
abbrev pub instance_of : Leaf → Node
instance_of args = row rows.Instantiate (named 0 Component c ▸ args ▸ no_leaf)

abbrev pub argument : Text → Leaf → Node
argument x l = row rows.Argument (text x ▸ l ▸ no_leaf)

-- (func $i "x")
abbrev pub func_in : Text → Leaf
func_in x = ref Func (path (export_of (root_name (id_at 0 i)) x))

-- (instance (export "u" ITEM)), as an argument
abbrev pub bundle_with : Leaf → Leaf
bundle_with l = ref Instance (bundle (row rows.Bundle (one_entry (row rows.BundleExport (text u ▸ l ▸ no_leaf)) ▸ no_leaf)))

-- (func (param i32)), (func) and an import of either in a module type
abbrev pub signature : Node
signature = row rows.CoreFunctionType (one_entry (row rows.CoreValueType (core_value i32 ▸ no_leaf)) ▸ nodes no_node ▸ no_leaf)

abbrev pub no_values : Node
no_values = row rows.CoreFunctionType (nodes no_node ▸ nodes no_node ▸ no_leaf)

abbrev pub import_func : Leaf → Node
import_func l = row rows.ModuleImport (text t ▸ text u ▸ node (row rows.FuncEntity (l ▸ no_leaf)) ▸ no_leaf)

abbrev pub module_type : Defs → Node
module_type ds = row rows.ModuleType (scope (scope_of kinds.ModuleType None None ds) ▸ no_leaf)

-- (alias outer PLACE $x (type))
abbrev pub alias_type : Place → ℕ → Text → Node
alias_type p o x = row rows.AliasOuter (place p ▸ ref Ty (name (at_place p) (id_at o x)) ▸ kind Ty ▸ no_leaf)

-- ---- components that meet the rule

-- (component (type $t u8) (component (type (list $t)) (import "f" (func (param "x" (list $t))))))
abbrev pub takes_x : Leaf → Node
takes_x l = row rows.FunctionType (number 0 ▸ one_entry (row rows.NamedType (text (codes "x") ▸ l ▸ no_leaf)) ▸ absent ▸ no_leaf)

abbrev pub import_f : Leaf → Node
import_f l = row rows.Import (text (codes "f") ▸ node (row rows.FuncDescription (l ▸ no_leaf)) ▸ no_leaf)

abbrev pub example_inside : Scope
example_inside = component (bare (list_of (named 0 Ty t)) (bare (import_f (ref Ty (inline (takes_x (list_type (named 0 Ty t)))))) no_def))

abbrev pub example : Scope
example = component (def t u8 (bare (row rows.Component (scope example_inside ▸ no_leaf)) no_def))

-- and what it is once it is resolved: (component (type $t u8) (component (alias outer 1 0 (type)) (type (list 0)) (alias outer 1 0 (type)) (type (list 2)) (type (func (param "x" 3))) (import "f" (func 4))))
abbrev numbered : ℕ → Leaf
numbered n = ref Ty (numeral 0 n)

abbrev alias_numbered : Node
alias_numbered = row rows.AliasOuter (place (core.counted 0 1) ▸ numbered 0 ▸ kind Ty ▸ no_leaf)

abbrev pub example_resolved : Scope
example_resolved = component (def t u8 (bare (nested (bare alias_numbered (bare (list_of (numbered 0)) (bare alias_numbered (bare (list_of (numbered 2)) (bare (takes_x (numbered 3)) (bare (import_f (numbered 4)) no_def))))))) no_def))

-- (component (type $t u8) (type (tuple (list u8) (list (list $t)) $t))): inline types in inline types, and a reference behind them
abbrev pub nested_types : Scope
nested_types = component (def t u8 (bare (tuple_of (list_type (number 0x7d)) (list_type (list_type (named 0 Ty t))) (named 0 Ty t)) no_def))

-- (component (type $t u8) (component (import "c" (func (param "u" (list $t)))) (type (tuple (list $t) (list $t) $t)))): outward names behind inline types
abbrev pub outward_inside : Scope
outward_inside = component (def t u8 (bare (nested (bare (import_as (ref Ty (inline (takes (list_type (named 0 Ty t))))))
    (bare (tuple_of (list_type (named 0 Ty t)) (list_type (named 0 Ty t)) (named 0 Ty t)) no_def))) no_def))

-- (component (type $t u8) (component (type (func (param "u" (list $t)) (result $t))))): a reference behind those of a list of parameters
abbrev pub behind_parameters : Scope
behind_parameters = component (def t u8 (bare (nested (bare (row rows.FunctionType (number 0 ▸ one_entry (row rows.NamedType (text u ▸ list_type (named 0 Ty t) ▸ no_leaf)) ▸ present (named 0 Ty t) ▸ no_leaf)) no_def)) no_def))

-- (component (type u8) (type $t u8) (component (type (list (list $t))) (type $t u8))): the inner declaration shadows the outer one
abbrev pub shadowed : Scope
shadowed = component (bare u8 (def t u8 (bare (nested (bare (list_of (list_type (named 0 Ty t))) (def t u8 no_def))) no_def)))

-- (component (type $t u8) (component (component (import "t" (component (import "c" (func (param "u" (list $t)))))))))
abbrev pub component_type_deep : Scope
component_type_deep = component (def t u8 (bare (nested (bare (nested (bare (row rows.Import (text t ▸ node (row rows.ComponentDescription (ref Ty (inline (row rows.ComponentType
    (scope (scope_of kinds.ComponentType None None (bare (import_as (ref Ty (inline (takes (list_type (named 0 Ty t)))))) no_def)) ▸ no_leaf))) ▸ no_leaf)) ▸ no_leaf)) no_def)) no_def)) no_def))

-- (component (component $c) (instance $i (instantiate $c)) (instance (instantiate $c (with "t" (instance (export "u" (func $i "t")))) (with "u" (func $i "u")))))
abbrev pub bundled : Scope
bundled = component (def c (nested no_def) (def i (instance_of (nodes no_node)) (bare (instance_of (nodes (one_node (argument t (bundle_with (func_in t))) (one_node (argument u (func_in u)) no_node)))) no_def)))

-- (component (component $c) (instance $i (instantiate $c)) (export "u" (func $i "t" "u")) (export "t" (func $i "t" "u"))): paths of two steps
abbrev two_step_export : Text → Node
two_step_export x = row rows.Export (text x ▸ absent ▸ ref Func (path (export_of (export_of (root_name (id_at 0 i)) t) u)) ▸ no_leaf)

abbrev pub two_steps : Scope
two_steps = component (def c (nested no_def) (def i (instance_of (nodes no_node)) (bare (two_step_export u) (bare (two_step_export t) no_def))))

-- the row of an instance admits an inline type as an argument, which no text has: its mark stands before that of a bundle in front of it
abbrev pub both_kinds : Scope
both_kinds = component (def c (nested no_def) (def i (instance_of (nodes no_node)) (bare (instance_of (nodes (one_node (argument t (bundle_with (func_in t))) (one_node (argument u (list_type (number 0x7d))) no_node)))) no_def)))

-- (component (type $t u8) (func $i (export "u") (import "c") (type $t)) (func (export "t") (export "u") (import "c") (type $t))): one with an id, one without
abbrev pub exported_as : Text → List Text → Node → Defs → Defs
exported_as x xs n ds = one_def (define (record { ids = Some (id_at 0 x) ∷ []; labels = []; exports = xs; offset = 0 }) n) ds

abbrev pub exported_inline : Scope
exported_inline = component (def t u8 (exported_as i (u ∷ []) (import_as (named 0 Ty t)) (exported (t ∷ u ∷ []) (import_as (named 0 Ty t)) no_def)))

-- (component (type $t (@name "u") u8) (type (list (list $t))))
abbrev pub labelled : Scope
labelled = component (one_def (define (record { ids = Some (id_at 0 t) ∷ []; labels = Some u ∷ []; exports = []; offset = 0 }) u8) (bare (list_of (list_type (named 0 Ty t))) no_def))

-- (component (core type (module (type (func (param i32))) (import "t" "u" (func (param i32))) (import "t" "u" (func))))): the first signature is reused
abbrev pub reused_signature : Scope
reused_signature = component (bare (module_type (bare signature (bare (import_func (ref CoreType (inline signature))) (bare (import_func (ref CoreType (inline no_values))) no_def)))) no_def)

-- (component $c (type $t u8) (component (component (alias outer $c $t (type $u)) (type (list (list $u))))))
abbrev pub outer_by_names : Scope
outer_by_names = scope_of kinds.Component (Some (id_at 0 c)) None (def t u8 (bare (nested (bare (nested (def u (alias_type (core.named 0 (id_at 0 c)) 0 t) (bare (list_of (list_type (named 0 Ty u))) no_def))) no_def)) no_def))

-- ---- components that are refused

-- (component (type (list (list $c))) (type $t u8) (type $t u8)): $t a second time at 60, and at 20, before it, a name that denotes nothing
abbrev pub twice : Scope
twice = component (bare (list_of (list_type (named 20 Ty c))) (def_at 40 t u8 (def_at 60 t u8 no_def)))

-- the same with one $t
abbrev pub nowhere : Scope
nowhere = component (bare (list_of (list_type (named 20 Ty c))) (def_at 40 t u8 no_def))

-- (component (import "c" (func $i)) (component (type (list (list $t))) (component $c) (instance (instantiate $c (with "t" (instance (export "u" (func $i)))))))):
-- the bundle names an outer function at 30, and at 20, before it, a name denotes nothing
abbrev pub too_far : Scope
too_far = component (def_at 5 i (import_as (ref Ty (numeral 0 0))) (bare (nested (bare (list_of (list_type (named 20 Ty t))) (def c (nested no_def) (bare (instance_of (one_entry (argument t (bundle_with (named 30 Func i))))) no_def)))) no_def))

-- (component (component (alias outer $c $t (type)) (type (list (list $u))))): no open scope is $c, whose word stands at 10
abbrev pub no_component : Scope
no_component = component (bare (nested (bare (alias_type (core.named 10 (id_at 12 c)) 14 t) (bare (list_of (list_type (named 20 Ty u))) no_def))) no_def)

-- (component (core instance (instantiate 0 (with "t" (instance (export "u" (core instance 0 "t"))))))): the path of a core instance at 80
abbrev pub core_path : Scope
core_path = component (bare (row rows.CoreInstantiate (ref CoreModule (numeral 0 0)
    ▸ one_entry (row rows.CoreArgument (text t ▸ ref CoreInstance (bundle (row rows.CoreBundle (one_entry (row rows.CoreBundleExport (text u ▸ ref CoreInstance (path (export_of (root_number 80 0) t)) ▸ no_leaf)) ▸ no_leaf))) ▸ no_leaf)) ▸ no_leaf)) no_def)

-- (component (component $c) (instance (instantiate $c (with "t" (func $t)) (with "u" (func $i "u"))))): at 30 a name that denotes nothing,
-- and behind it at 40 the root of a path, which is looked for first
abbrev pub roots_first : Scope
roots_first = component (def c (nested no_def) (bare (instance_of (nodes (one_node (argument t (named 30 Func t)) (one_node (argument u (ref Func (path (export_of (root_name (id_at 40 i)) u)))) no_node)))) no_def))

-- each with the cause, and the offset
abbrev pub refusals : List (Scope × (Cause × ℕ))
refusals =
    (twice, (duplicate, 60))
    ∷ (nowhere, (unknown, 20))
    ∷ (too_far, (outer_kind, 30))
    ∷ (no_component, (outer_component, 10))
    ∷ (core_path, (core_export_kind, 80))
    ∷ (roots_first, (unknown, 40))
    ∷ []
