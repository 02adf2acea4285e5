-- The first unmet demand of small components, by computation.
use Rattle.std.proofs.Common.{◌≡◌, ℕ, [], Some, None, refl}
use Rattle.comp_model.specs.declared.Space.TheVariants.{CoreInstance, Func, Ty, Instance}
use Rattle.comp_model.specs.declared.row.Row.TheVariants as rows
use Rattle.comp_model.specs.Core as core
use Rattle.comp_model.specs.Core.{Text, counted, at_place}
use Rattle.comp_model.specs.Model.{Leaf, text, kind, ref, place, absent, nodes, case_id, core_source, name, path, numeral, root_name, root_number, export_of, no_leaf, ◌▸◌, Node, row, no_node, one_node, no_def}
use Rattle.comp_scopes.specs.Encoding.{Encoding}
use Rattle.comp_scopes.specs.Unmet.{first_unmet, unmet, duplicate, unknown, outer_kind, outer_component, outer_count, core_export_kind, core_rule}
use Rattle.comp_scopes.proofs.Shorthands.{plain_encoding, id_at, def, def_at, bare, component, nested, u8, named, list_of, one_entry}
use Rattle.comp_scopes.proofs.Letters.{c, t}

-- two types $t, the second at 20
twice : first_unmet plain_encoding [] (component (def_at 10 t u8 (def_at 20 t u8 no_def))) ≡ unmet duplicate 20
twice = refl

-- a list of $t at 30, which nothing declares
nowhere : first_unmet plain_encoding [] (component (bare (list_of (named 30 Ty t)) no_def)) ≡ unmet unknown 30
nowhere = refl

-- an inner export of the outer function $t
abbrev lift : Node
lift = row rows.Lift (ref Ty (numeral 0 0) ▸ ref Func (numeral 0 0) ▸ nodes no_node ▸ no_leaf)

too_far : first_unmet plain_encoding [] (component (def t lift (bare (nested (bare (row rows.Export (text t ▸ absent ▸ named 40 Func t ▸ no_leaf)) no_def)) no_def))) ≡ unmet outer_kind 40
too_far = refl

-- (alias outer $c $t (type)) with its word at 50, in a component that is not $c
no_component : first_unmet plain_encoding [] (component (bare (row rows.AliasOuter (place (core.named 50 (id_at 60 c)) ▸ ref Ty (name (at_place (core.named 50 (id_at 60 c))) (id_at 70 t)) ▸ kind Ty ▸ no_leaf)) no_def)) ≡ unmet outer_component 50
no_component = refl

-- (alias outer 1 $t (type)) where one scope is open
no_scope : first_unmet plain_encoding [] (component (bare (row rows.AliasOuter (place (counted 50 1) ▸ ref Ty (name (at_place (counted 50 1)) (id_at 70 t)) ▸ kind Ty ▸ no_leaf)) no_def)) ≡ unmet outer_count 50
no_scope = refl

-- (alias outer 7 3 (type)) with two numerals isn't looked at
two_numerals : first_unmet plain_encoding [] (component (bare (row rows.AliasOuter (place (counted 50 7) ▸ ref Ty (numeral 70 3) ▸ kind Ty ▸ no_leaf)) no_def)) ≡ None
two_numerals = refl

-- an argument (core instance 0 "t") with its numeral at 80
core_path : first_unmet plain_encoding [] (component (bare (row rows.CoreInstantiate (ref CoreInstance (numeral 0 0) ▸ one_entry (row rows.CoreArgument (text t ▸ ref CoreInstance (path (export_of (root_number 80 0) t)) ▸ no_leaf)) ▸ no_leaf)) no_def)) ≡ unmet core_export_kind 80
core_path = refl

-- the root of a path is looked for in its own scope alone
own_root : first_unmet plain_encoding [] (component (def t (row rows.Bundle (nodes no_node ▸ no_leaf)) (bare (nested (bare (row rows.Export (text t ▸ absent ▸ ref Func (path (export_of (root_name (id_at 90 t)) t)) ▸ no_leaf)) no_def)) no_def))) ≡ unmet unknown 90
own_root = refl

-- the instance of a written alias is looked for outward
alias_root : first_unmet plain_encoding [] (component (def t (row rows.Bundle (nodes no_node ▸ no_leaf)) (bare (nested (bare (row rows.AliasExport (named 95 Instance t ▸ text t ▸ kind Func ▸ no_leaf)) no_def)) no_def))) ≡ unmet outer_kind 95
alias_root = refl

-- two cases $t of one variant, beside a name that denotes nothing between them
abbrev case : ℕ → Text → Leaf → Node
case o x l = row rows.CaseType (case_id (Some (id_at o x)) ▸ text x ▸ l ▸ no_leaf)

two_cases : first_unmet plain_encoding [] (component (bare (row rows.VariantType (nodes (one_node (case 10 t absent) (one_node (case 20 t absent) no_node)) ▸ no_leaf)) no_def)) ≡ unmet duplicate 20
two_cases = refl

name_between : first_unmet plain_encoding [] (component (bare (row rows.VariantType (nodes (one_node (case 10 t (Leaf.present (named 15 Ty c))) (one_node (case 20 t absent) no_node)) ▸ no_leaf)) no_def)) ≡ unmet unknown 15
name_between = refl

-- a duplicate of the outer scope comes before an unknown name of the inner one
outer_first : first_unmet plain_encoding [] (component (bare (nested (bare (list_of (named 30 Ty c)) no_def)) (def_at 40 t u8 (def_at 50 t u8 no_def)))) ≡ unmet duplicate 50
outer_first = refl

-- and its unknown name in a later definition comes behind the inner scope
inner_first : first_unmet plain_encoding [] (component (bare (nested (bare (list_of (named 30 Ty c)) no_def)) (bare (list_of (named 40 Ty c)) no_def))) ≡ unmet unknown 30
inner_first = refl

-- a core module that breaks a rule
abbrev broken : Encoding
broken = record { core_refusal = λ c. Some (record { fault = core.type_mismatch; offset = 60 }); core_bytes = λ c. [] }

in_core : first_unmet broken [] (component (bare (row rows.CoreModule (core_source (record { naming = record { id = None; label = None }; fields = [] }) ▸ no_leaf)) no_def)) ≡ unmet (core_rule core.type_mismatch) 60
in_core = refl

-- everything denotes something
met : first_unmet plain_encoding [] (component (def t u8 (bare (nested (bare (list_of (named 30 Ty t)) no_def)) no_def))) ≡ None
met = refl
