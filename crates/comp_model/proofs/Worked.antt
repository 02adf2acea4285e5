-- Weights, forms that are not written, names and rows of small components, by computation.
use Rattle.std.proofs.Common.{◌≡◌, ℕ, zero, suc, ◌+◌, ◌*◌, refl, ap, arith, rules, true, false, List, [], ◌∷◌, ◌++◌, Option, Some, None}
use Rattle.std.specs.Prelude.{codes}
use Rattle.std.specs.Str.{is_utf8, chars}
use Rattle.std.specs.Char.{encode_utf8}
use Rattle.comp_model.specs.declared.Space.TheVariants.{CoreFunc, Func, Ty, Component, Instance}
use Rattle.comp_model.specs.Core.{Text, Id, Place, counted, outward, at_place, other_value, ref_name}
use Rattle.comp_model.specs.CoreModules.{CoreModule}
use Rattle.comp_model.specs.Model.{Leaf, text, number, kind, place, ref, absent, present, node, nodes, core_source, result_ids, numeral, name, path, inline, bundle, root_name, Path, export_of, Target, Leaves, no_leaf, ◌▸◌, Node, row, Nodes, no_node, one_node, Names, nameless_at, define, Defs, no_def, one_def, Scope, scope_of}
use Rattle.comp_model.specs.declared.row.ScopeKind.TheVariants as kinds
use Rattle.comp_model.specs.declared.row.Row.TheVariants as rows
use Rattle.comp_model.specs.declared.row.Row.{Row}
use Rattle.comp_model.specs.declared.Space.{Space}
use Rattle.comp_model.specs.Makers as make
use Rattle.comp_model.specs.Rows.{FitsRows}
use Rattle.comp_model.specs.Utf8Names.{NamesAreUtf8}
use Rattle.comp_model.specs.NamesFit.{NamesFit}
use Rattle.comp_model.specs.Weight.{weight, weight_of_defs}
use Rattle.comp_model.specs.Covered.{Uncovered, first_uncovered}
use Rattle.comp_model.specs.Leb.{leb}
use Rattle.comp_model.specs.Payloads.{producers_payload}

abbrev an_id : Text → Id
an_id x = record { name = x; number = 0; offset = 0 }

abbrev with : Names → Node → Defs → Defs
with ns n ds = one_def (define ns n) ds

abbrev at : ℕ → Node → Defs → Defs
at o n ds = with (nameless_at o) n ds

abbrev one : Node → Scope
one n = scope_of kinds.Component None None (at 0 n no_def)

abbrev u8 : Node
u8 = make.primitive 0x7d

abbrev a_module : CoreModule
a_module = record { naming = record { id = None; label = None }; fields = [] }

abbrev only : Node → Nodes
only n = one_node n no_node

-- a row without leaves; one as the leaf of another
abbrev row_of : Row → Node
row_of t = row t no_leaf

abbrev row_leaf : Row → Leaf
row_leaf t = node (row_of t)

abbrev odd_alias : Place → Space → Target → Space → Node
odd_alias p s t k = row rows.AliasOuter (place p ▸ ref s t ▸ kind k ▸ no_leaf)

abbrev lists : Nodes → Nodes → Nodes → Leaves
lists a b c = nodes a ▸ nodes b ▸ nodes c ▸ no_leaf

abbrev weigh : Scope → ℕ
weigh s = weight (λ m. 7) s

-- ---- weights: a scope, a definition and its node have 32 each, and so has a leaf

one_type : weigh (one u8) ≡ 32 + (32 + 32) + 32
one_type = refl

-- a text leaf, an absent part, and a reference with one step of two letters
path_step : weigh (one (make.export_row (text (codes "x")) absent Func (path (export_of (root_name (an_id (codes "i"))) (codes "ab"))))) ≡ 32 + (32 + 32) + (32 + 1) + 32 + (32 + (32 + 2))
path_step = refl

an_inline_export : weigh (scope_of kinds.Component None None (with (record { ids = []; labels = []; exports = codes "ab" ∷ []; offset = 0 }) u8 no_def)) ≡ 32 + (32 + 32) + 32 + (32 + 2)
an_inline_export = refl

-- a reference, an empty list and two results, which are ids too
two_results : weigh (scope_of kinds.Component None None (with (record { ids = Some (an_id (codes "a")) ∷ Some (an_id (codes "bc")) ∷ []; labels = []; exports = []; offset = 0 })
    (make.start (numeral 0 0) no_node (result_ids (Some (an_id (codes "a")) ∷ Some (an_id (codes "bc")) ∷ []))) no_def))
    ≡ 32 + (32 + 32) + 32 + 32 + (32 + 2 * 32) + 3
two_results = refl

an_id_and_a_label : weigh (scope_of kinds.Component (Some (an_id (codes "c"))) (Some (codes "de")) (with (record { ids = Some (an_id (codes "t")) ∷ []; labels = Some (codes "type") ∷ []; exports = []; offset = 0 }) u8 no_def))
    ≡ 32 + (32 + 32) + 32 + (1 + 4) + (1 + 2)
an_id_and_a_label = refl

-- an optional leaf with a node in it, and one with a value
an_optional_node : weigh (one (make.export_row (text []) (present (node make.sub_resource)) Ty (numeral 0 0))) ≡ 32 + (32 + 32) + 32 + (32 + 32) + 32
an_optional_node = refl

an_optional_value : weigh (one (make.stream_type (present (number 0x7d)))) ≡ 32 + (32 + 32) + (32 + 32)
an_optional_value = refl

-- a list, its one entry, and the entry's three leaves
a_case_id : weigh (one (make.variant_type (only (make.case_type (Some (an_id (codes "abc"))) (codes "d") absent)))) ≡ 32 + (32 + 32) + 32 + 32 + (32 + (32 + 1) + 32)
a_case_id = refl

-- a reference, a list, its entry, a text, and a reference with the bundle's node and its empty list
a_bundle : weigh (one (make.instantiate (numeral 0 0) (only (make.argument [] Instance (bundle (make.bundle no_node)))))) ≡ 32 + (32 + 32) + 32 + 32 + 32 + 32 + (32 + 32 + 32)
a_bundle = refl

-- a reference with the node and the leaf of a type
an_inline_node : weigh (one (make.list_type (ref Ty (inline (make.option_type (number 0x7d)))))) ≡ 32 + (32 + 32) + (32 + 32 + 32)
an_inline_node = refl

a_nested_scope : weigh (one (make.component (one u8))) ≡ 32 + (32 + 32) + (32 + (32 + (32 + 32) + 32))
a_nested_scope = refl

a_core_module : weigh (one (make.core_module (core_source a_module))) ≡ 32 + (32 + 32) + (32 + 7)
a_core_module = refl

-- n times ` (type u8)`
abbrev times : ℕ → Defs
times zero = no_def
times (suc n) = at 0 u8 (times n)

times_weight : (n : ℕ) → weight_of_defs (λ m. 7) (times n) ≡ 96 * n
times_weight zero = refl
times_weight (suc n) = omega (arith, times_weight n)

-- a text of 699,050 of them is 32 short of the limit, and one of as many more as fit below it would pass it
many_types : weigh (scope_of kinds.Component None None (times 699_050)) ≡ 67_108_832
many_types = ap (λ n. 32 + n + 0 + 0) (times_weight 699_050)

-- ---- forms that are read and never written

abbrev found : Scope → Option Uncovered
found s = first_uncovered (λ m. Some (record { row = 7; offset = 77 })) s

-- each row has its number, and the definition its offset
maps_are_two : found (scope_of kinds.Component None None (at 12 u8 (at 30 (make.list_type (ref Ty (inline (row_of rows.MapType)))) no_def))) ≡ Some (record { row = 2; offset = 30 })
maps_are_two = refl

values_are_three : found (one (make.import_row (text []) (row_of rows.ValueDescription))) ≡ Some (record { row = 3; offset = 0 })
values_are_three = refl

options_are_four : found (scope_of kinds.Component None None (at 9 (make.lift (numeral 0 0) (numeral 0 0) (only (row_of rows.OptionGc))) no_def)) ≡ Some (record { row = 4; offset = 9 })
options_are_four = refl

built_ins_are_five : found (scope_of kinds.Component None None (at 9 (make.built_in rows.ThreadYield) no_def)) ≡ Some (record { row = 5; offset = 9 })
built_ins_are_five = refl

values_of_core_are_six : found (scope_of kinds.Component None None (at 9 (make.core_function_type (only (make.core_value_type other_value)) no_node) no_def)) ≡ Some (record { row = 6; offset = 9 })
values_of_core_are_six = refl

-- of two forms in one definition the lower, though it stands behind
lower_first : found (scope_of kinds.Component None None (at 9 (make.lift (numeral 0 0) (numeral 0 0) (one_node (row_of rows.OptionGc) (only (row_of rows.AttributedName)))) no_def)) ≡ Some (record { row = 1; offset = 9 })
lower_first = refl

-- the innermost definition holds it; a definition in front of it that holds none of its own does not
innermost : found (scope_of kinds.Component None None (at 5 (make.component (scope_of kinds.Component None None (at 20 u8 (at 40 (row_of rows.MapType) no_def)))) (at 60 (row_of rows.MapType) no_def))) ≡ Some (record { row = 2; offset = 40 })
innermost = refl

-- a definition that holds one of its own comes before those in it
outer_first : found (scope_of kinds.Component None None (at 5 (make.import_row (row_leaf rows.AttributedName) (make.described_by rows.InstanceDescription (inline (make.instance_type (scope_of kinds.InstanceType None None (at 20 (row_of rows.MapType) no_def)))))) no_def))
    ≡ Some (record { row = 1; offset = 5 })
outer_first = refl

-- a core module names its own field
in_core_module : found (one (make.core_module (core_source a_module))) ≡ Some (record { row = 7; offset = 77 })
in_core_module = refl

-- ---- rows: what does not fit

not_true : {A : Type 0} → false ≡ true → A
not_true h = absurd (cc)

-- an outer alias whose reference and kind differ, one whose place and reach differ, one of a module type that is none of a core type
odd_kind : FitsRows (one (odd_alias (counted 0 0) Ty (numeral 0 0) Component)) → ⊥
odd_kind h = not_true h.0

odd_place : FitsRows (one (make.alias_outer (counted 0 0) (name (at_place (counted 0 1)) (an_id (codes "t"))) Ty)) → ⊥
odd_place h = not_true h.0

odd_module_alias : FitsRows (one (make.module_type (scope_of kinds.ModuleType None None (at 0 (make.alias_outer (counted 0 1) (numeral 0 0) Ty) no_def)))) → ⊥
odd_module_alias h = not_true h.1.0.1.0

right_alias : FitsRows (one (make.alias_outer (counted 0 1) (name (at_place (counted 0 1)) (an_id (codes "t"))) Ty))
right_alias = search rules

-- a core function type that looks outward, a core kind that is none, a flag of 2, no code of a primitive type
odd_reach : FitsRows (one (make.core_function_type (only (make.core_value_type (ref_name true outward (an_id (codes "t"))))) no_node)) → ⊥
odd_reach h = not_true h.1.0.1.1.0

odd_core_kind : FitsRows (one (make.alias_core_export (numeral 0 0) (codes "t") Func)) → ⊥
odd_core_kind h = not_true h.1.1.1.0

odd_flag : FitsRows (one (make.subtask_cancel 2)) → ⊥
odd_flag h = not_true h.1.0

odd_code : FitsRows (one (make.primitive 0x65)) → ⊥
odd_code h = not_true h.1.0

-- an export of no step, a core export of two, a type in the place of an alias's instance or of a function's resource
odd_path : FitsRows (one (make.export_row (text (codes "t")) absent Func (path (root_name (an_id (codes "t")))))) → ⊥
odd_path h = not_true h.1.1.1.0.1

odd_core_path : FitsRows (one (make.export_row (text (codes "t")) absent CoreFunc (path (export_of (export_of (root_name (an_id (codes "t"))) (codes "a")) (codes "b"))))) → ⊥
odd_core_path h = not_true h.1.1.1.0.1

-- no path stands in the place of a handle's resource, of a bound, of a start's function, of an alias's instance, in a value type, or in the type
-- of a core module, where an index or a name does
abbrev step : Path
step = export_of (root_name (an_id (codes "i"))) (codes "a")

abbrev signature_in : Target → Node
signature_in t = make.module_type (scope_of kinds.ModuleType None None (at 0 (make.module_export (codes "f") (make.func_entity t)) no_def))

-- a row of each with this reference
abbrev indices : Target → List Node
indices t =
    make.own_type t
    ∷ make.borrow_type t
    ∷ make.import_row (text (codes "t")) (make.described_by rows.TypeEq t)
    ∷ make.import_row (text (codes "t")) (row rows.ValueDescription (ref Ty t ▸ no_leaf))
    ∷ make.start t no_node (result_ids [])
    ∷ make.alias_export t (codes "f") Func
    ∷ make.alias_core_export t (codes "f") CoreFunc
    ∷ make.list_type (ref Ty t)
    ∷ make.stream_type (present (ref Ty t))
    ∷ []

-- and of those where a path stands
abbrev items : Target → List Node
items t =
    make.import_row (text (codes "t")) (make.described_by rows.FuncDescription t)
    ∷ make.lift t (numeral 0 0) no_node
    ∷ make.export_row (text (codes "t")) absent Func t
    ∷ make.instantiate t (only (make.argument (codes "f") Func t))
    ∷ row rows.ResourceDrop (ref Ty t ▸ no_leaf)
    ∷ []

abbrev AllFit : List Node → Type 0
AllFit [] = Unit {0}
AllFit (n ∷ ns) = FitsRows (one n) × AllFit ns

abbrev NoneFit : List Node → Type 0
NoneFit [] = Unit {0}
NoneFit (n ∷ ns) = (FitsRows (one n) → ⊥) × NoneFit ns

right_indices : AllFit (indices (name outward (an_id (codes "t"))))
right_indices = search rules

right_items : AllFit (items (path (export_of step (codes "b"))))
right_items = search rules

odd_indices : NoneFit (indices (path step))
odd_indices = (λ h. not_true h.1.0.1, (λ h. not_true h.1.0.1, (λ h. not_true h.1.1.0.1.0.1, (λ h. not_true h.1.1.0.1.0.1, (λ h. not_true h.1.0.1, (λ h. not_true h.1.0.1, (λ h. not_true h.1.0.1, (λ h. not_true h.1.0.1, (λ h. not_true h.1.0.1.1, tt)))))))))

odd_signature : FitsRows (one (signature_in (path step))) → ⊥
odd_signature h = not_true h.1.0.1.1.1.0.1.0.1

-- a text for a payload, and no text in another place
right_payload : FitsRows (one (make.custom (codes "n") (0xff ∷ [])))
right_payload = search rules

-- ---- names in UTF-8

-- a character of three bytes, and a byte that begins none
abbrev euro : Text
euro = 0xe2 ∷ 0x82 ∷ 0xac ∷ []

abbrev no_character : Text
no_character = 0xff ∷ []

-- places of a text: the name of an import, in a row of its own too, an argument, the step of a path, an inline export, a name within a type
abbrev named_by : Text → List Scope
named_by x =
    one (make.import_row (text x) (make.described_by rows.FuncDescription (numeral 0 0)))
    ∷ one (make.import_row (node (row rows.AttributedName (text (codes "a") ▸ absent ▸ present (text x) ▸ absent ▸ no_leaf))) (row_of rows.SubResource))
    ∷ one (make.instantiate (numeral 0 0) (only (make.argument x Func (numeral 0 0))))
    ∷ one (make.export_row (text (codes "t")) absent Func (path (export_of (export_of (root_name (an_id (codes "i"))) x) (codes "a"))))
    ∷ scope_of kinds.Component None None (with (record { ids = []; labels = []; exports = codes "a" ∷ x ∷ []; offset = 0 }) u8 no_def)
    ∷ one (make.list_type (ref Ty (inline (make.enum_type (only (make.lone_name x))))))
    ∷ one (make.component (one (make.custom x [])))
    ∷ []

abbrev AllUtf8 : List Scope → Type 0
AllUtf8 [] = Unit {0}
AllUtf8 (s ∷ ss) = NamesAreUtf8 s × AllUtf8 ss

abbrev NoneUtf8 : List Scope → Type 0
NoneUtf8 [] = Unit {0}
NoneUtf8 (s ∷ ss) = (NamesAreUtf8 s → ⊥) × NoneUtf8 ss

right_names : AllUtf8 (named_by euro)
unfolding is_utf8 chars encode_utf8
right_names = search rules

odd_names : NoneUtf8 (named_by no_character)
unfolding is_utf8 chars encode_utf8
odd_names = (λ h. not_true h.1.0, (λ h. not_true h.1.0.1.1.0, (λ h. not_true h.1.1.0.0.0, (λ h. not_true h.1.1.1.0.1.0, (λ h. not_true h.0.1.0, (λ h. not_true h.1.0.0.0.0, (λ h. not_true h.1.0.1.0, tt)))))))

-- the payload of a custom section has any bytes
right_bytes : NamesAreUtf8 (one (make.custom (codes "n") no_character))
unfolding is_utf8 chars encode_utf8
right_bytes = search rules

odd_payload : FitsRows (one (row rows.Custom (text (codes "n") ▸ number 0 ▸ no_leaf))) → ⊥
odd_payload h = not_true h.1.1.0

odd_inline : FitsRows (one (make.own_type (inline u8))) → ⊥
odd_inline h = not_true h.1.0.1.0

odd_bundle : FitsRows (one (make.export_row (text (codes "t")) absent Instance (bundle (make.bundle no_node)))) → ⊥
odd_bundle h = not_true h.1.1.1.0.1.0

-- ---- names

abbrev named : Text → Names
named x = record { ids = Some (an_id x) ∷ []; labels = []; exports = []; offset = 0 }

-- a component in a component has its definition's id; inline exports stand in components alone, and on types
a_named_component : NamesFit (scope_of kinds.Component None None (with (named (codes "c")) (make.component (scope_of kinds.Component (Some (an_id (codes "c"))) None no_def)) no_def))
a_named_component = search rules

odd_name : NamesFit (scope_of kinds.Component None None (with (named (codes "c")) (make.component (scope_of kinds.Component None None no_def)) no_def)) → ⊥
odd_name h = let e : ◌≡◌ {A = Option Id} None (Some (an_id (codes "c"))) = h.2.0.0 in cc

-- the scope of a type has its definition's id and never a label
abbrev labelled_type : Option Text → Scope
labelled_type label = scope_of kinds.Component None None (with (record { ids = Some (an_id (codes "t")) ∷ []; labels = Some (codes "u") ∷ []; exports = []; offset = 0 })
    (make.instance_type (scope_of kinds.InstanceType (Some (an_id (codes "t"))) label no_def)) no_def)

a_labelled_type : NamesFit (labelled_type None)
a_labelled_type = search rules

odd_label : NamesFit (labelled_type (Some (codes "u"))) → ⊥
odd_label h = let e : ◌≡◌ {A = Option Text} (Some (codes "u")) None = h.2.0.1 in cc

odd_exports : NamesFit (one (make.instance_type (scope_of kinds.InstanceType None None (with (record { ids = []; labels = []; exports = codes "t" ∷ []; offset = 0 }) u8 no_def)))) → ⊥
odd_exports h = h.3.0.1

odd_export_of_start : NamesFit (scope_of kinds.Component None None (with (record { ids = []; labels = []; exports = codes "t" ∷ []; offset = 0 }) (make.start (numeral 0 0) no_node (result_ids (None ∷ []))) no_def)) → ⊥
odd_export_of_start h = not_true h.1

-- ---- payloads

-- fields without an entry are left out
two_producers : producers_payload (lists (only (make.producer (codes "C") (codes "1"))) no_node (only (make.producer (codes "D") [])))
    ≡ 2 ∷ 8 ∷ (codes "language" ++ (1 ∷ 1 ∷ codes "C" ++ 1 ∷ codes "1" ++ 12 ∷ codes "processed-by" ++ 1 ∷ 1 ∷ codes "D" ++ 0 ∷ []))
unfolding leb
two_producers = refl
