-- What fits the table of bytes, holds no core module and passes the test of the printed table can be printed.
use Rattle.std.proofs.Common.{◌≡◌, ℕ, Bool, true, false, ◌||◌, refl, sym, subst, List, [], ◌∷◌, length, Option, None}
use Rattle.std.specs.Prelude.{⊤}
use Rattle.comp_model.specs.declared.Space.{Space}
use Rattle.comp_model.specs.declared.Space.TheVariants as space
use Rattle.comp_model.specs.declared.row.Row.TheVariants as rows
use Rattle.comp_model.specs.declared.row.Row.{Row}
use Rattle.comp_model.specs.Core as c
use Rattle.comp_model.specs.Core.{Id, Text}
use Rattle.comp_model.specs.Model as m
use Rattle.comp_model.specs.declared.row.ScopeKind.TheVariants as kinds
use Rattle.comp_model.specs.Model.{Leaf, Leaves, no_leaf, ◌▸◌, Node, row, Names, no_names, Def, define, Defs, no_def, one_def, Scope, scope_of}
use Rattle.comp_model.specs.declared.row.ScopeKind.{ScopeKind}
use Rattle.comp_wire.specs.Table as t
use Rattle.comp_wire.specs.Read.{FitsComponent}
use Rattle.comp_wire.specs.Spelled.{FitsPieces, FitsLeaf, FitsNode, FitsItem, FitsDefinitions, FitsDeclarations, fits_leaves, declarations_of}
use Rattle.comp_wire.proofs.Groups.{and_both}
use Rattle.comp_wire.proofs.Fit.{fits_sections}
use Rattle.print_table.specs.Lines as line
use Rattle.print_table.specs.Lines.{Piece, definition_line, definition_in}
use Rattle.print_table.specs.TextOf.{is_name_section, unless_names, unnamed_leaf, unnamed_leaves, unnamed_defs, unnamed}
use Rattle.print_table.specs.HasText.{line_has, leaf_has, leaves_have, definition_has, definitions_have, has_text, is_core_module, leaf_holds_module, leaves_hold_module, definitions_hold_module, holds_module, leaf_has_bytes, leaves_have_bytes, definitions_have_bytes, has_bytes}
use Rattle.print_table.specs.Printable.{Bytes, HoldsTypes, DefPrintable, DefsPrintable, IsPrintable}
use Rattle.print_table.proofs.PrintableLeaves.{IndexLeaf, an_index, index_at, not_true, not_false, one_leaf, two_leaves, three_leaves, TextLeaf, a_text, text_at, as_unnamed, as_named, outer_kind}
use Rattle.print_table.proofs.PrintableTypes as types
use Rattle.print_table.proofs.PrintableItems as items
use Rattle.print_table.proofs.PrintableDeclarations as declarations

or_both : (a b : Bool) → (a || b) ≡ false → (a ≡ false) × (b ≡ false)
or_both true b e = cc
or_both false b e = (refl, e)

-- ---- scopes

abbrev FitsDefs : ScopeKind → Defs → Type 0
FitsDefs kinds.Component ds = FitsDefinitions ds
FitsDefs kinds.ComponentType ds = FitsDeclarations ds t.component_declarations
FitsDefs kinds.InstanceType ds = FitsDeclarations ds t.instance_declarations
FitsDefs kinds.ModuleType ds = FitsDeclarations ds t.module_declarations

abbrev FitsDef : ScopeKind → Node → Type 0
FitsDef kinds.Component n = FitsItem n
FitsDef kinds.ComponentType n = FitsNode n t.component_declarations
FitsDef kinds.InstanceType n = FitsNode n t.instance_declarations
FitsDef kinds.ModuleType n = FitsNode n t.module_declarations

-- what is shown of the definitions of a scope
abbrev DefsMade : Defs → Type 0
DefsMade ds = (k : ScopeKind) → FitsDefs k ds → definitions_hold_module ds ≡ false → definitions_have_bytes ds ≡ true → definitions_have k (unnamed_defs ds) ≡ true → DefsPrintable k (unnamed_defs ds)

abbrev LeafMade : Leaf → Type 0
LeafMade (m.scope (scope_of k id label ds)) = DefsMade ds
LeafMade _ = ⊤

abbrev LeavesMade : Leaves → Type 0
LeavesMade no_leaf = ⊤
LeavesMade (l ▸ ls) = LeafMade l × LeavesMade ls

data ScopeLeaf (k : ScopeKind) : Leaf → Type 0 where
  a_scope : {ds : Defs} → DefsPrintable k ds → ScopeLeaf k (m.scope (scope_of k None None ds))

scope_leaf : (j k : ScopeKind) (id : Option Id) (label : Option Text) (ds : Defs) → j ≡ k → id ≡ None → label ≡ None → DefsPrintable k ds → ScopeLeaf k (m.scope (scope_of j id label ds))
scope_leaf j k id label ds e f g h =
    subst (λ j. ScopeLeaf k (m.scope (scope_of j id label ds))) (sym e)
    (subst (λ i. ScopeLeaf k (m.scope (scope_of k i label ds))) (sym f) (subst (λ l. ScopeLeaf k (m.scope (scope_of k None l ds))) (sym g) (a_scope h)))

-- the scope of a type
type_scope : (k : ScopeKind) → ((ds : Defs) → FitsDeclarations ds (declarations_of k) → FitsDefs k ds) → (a : Leaf) → FitsLeaf a (t.type_scope k) → LeafMade a → leaf_holds_module a ≡ false → leaf_has_bytes a ≡ true → leaf_has (unnamed_leaf a) line.definitions ≡ true → ScopeLeaf k (unnamed_leaf a)
type_scope k f (m.scope (scope_of j id label ds)) h r n b e = scope_leaf j k id label (unnamed_defs ds) h.0 h.1 h.2 (r k (f ds h.4) n b (subst (λ i. definitions_have i (unnamed_defs ds) ≡ true) h.0 e))
type_scope k f _ h r n b e = absurd h

component_scope : (a : Leaf) → FitsLeaf a t.whole_component → LeafMade a → leaf_holds_module a ≡ false → leaf_has_bytes a ≡ true → leaf_has (unnamed_leaf a) line.definitions ≡ true → ScopeLeaf kinds.Component (unnamed_leaf a)
component_scope (m.scope (scope_of j id label ds)) h r n b e = scope_leaf j kinds.Component id label (unnamed_defs ds) h.0 h.1 h.2 (r kinds.Component h.3 n b (subst (λ i. definitions_have i (unnamed_defs ds) ≡ true) h.0 e))
component_scope _ h r n b e = absurd h

-- ---- rows with a scope

module _ {k : ScopeKind} (h : HoldsTypes k) where
  component_type_made : {a : Leaf} → ScopeLeaf kinds.ComponentType a → DefPrintable k (row rows.ComponentType (a ▸ no_leaf))
  component_type_made (a_scope d) = DefPrintable.component_type h d

  instance_type_made : {a : Leaf} → ScopeLeaf kinds.InstanceType a → DefPrintable k (row rows.InstanceType (a ▸ no_leaf))
  instance_type_made (a_scope d) = DefPrintable.instance_type h d

  module_type_made : {a : Leaf} → ScopeLeaf kinds.ModuleType a → DefPrintable k (row rows.ModuleType (a ▸ no_leaf))
  module_type_made (a_scope d) = DefPrintable.module_type h d

component_made : {a : Leaf} → ScopeLeaf kinds.Component a → DefPrintable kinds.Component (row rows.Component (a ▸ no_leaf))
component_made (a_scope d) = DefPrintable.component d

-- what is given of a row
abbrev Given : (Leaves → Type 0) → t.Field → List Piece → Leaves → Type 0
Given P f ps ls = FitsPieces (t.leaf 0 f ∷ []) (fits_leaves ls) → leaves_hold_module ls ≡ false → leaves_have_bytes ls ≡ true → LeavesMade ls → line_has ps (leaves_have (unnamed_leaves ls)) ≡ true → P (unnamed_leaves ls)

abbrev RowGiven : (Leaves → Type 0) → t.Field → List Piece → Leaves → Type 0
RowGiven P f ps ls = (length (fits_leaves ls) ≡ 1) × FitsPieces (t.leaf 0 f ∷ []) (fits_leaves ls) → leaves_hold_module ls ≡ false → leaves_have_bytes ls ≡ true → LeavesMade ls → line_has ps (leaves_have (unnamed_leaves ls)) ≡ true → P (unnamed_leaves ls)

component_row : (ls : Leaves) → RowGiven (λ x. DefPrintable kinds.Component (row rows.Component x)) t.whole_component (definition_line rows.Component) ls
component_row ls f n b r e = one_leaf (Given (λ x. DefPrintable kinds.Component (row rows.Component x)) t.whole_component (definition_line rows.Component)) ls f.0
    (λ a f n b r e. component_made (component_scope a f.0 r.0 (or_both _ _ n).0 (and_both _ _ b).0 (and_both _ _ e).0)) f.1 n b r e

component_type_row : {k : ScopeKind} → HoldsTypes k → (ls : Leaves) → RowGiven (λ x. DefPrintable k (row rows.ComponentType x)) (t.type_scope kinds.ComponentType) (definition_line rows.ComponentType) ls
component_type_row {k} h ls f n b r e = one_leaf (Given (λ x. DefPrintable k (row rows.ComponentType x)) (t.type_scope kinds.ComponentType) (definition_line rows.ComponentType)) ls f.0
    (λ a f n b r e. component_type_made h (type_scope kinds.ComponentType (λ ds x. x) a f.0 r.0 (or_both _ _ n).0 (and_both _ _ b).0 (and_both _ _ e).0)) f.1 n b r e

instance_type_row : {k : ScopeKind} → HoldsTypes k → (ls : Leaves) → RowGiven (λ x. DefPrintable k (row rows.InstanceType x)) (t.type_scope kinds.InstanceType) (definition_line rows.InstanceType) ls
instance_type_row {k} h ls f n b r e = one_leaf (Given (λ x. DefPrintable k (row rows.InstanceType x)) (t.type_scope kinds.InstanceType) (definition_line rows.InstanceType)) ls f.0
    (λ a f n b r e. instance_type_made h (type_scope kinds.InstanceType (λ ds x. x) a f.0 r.0 (or_both _ _ n).0 (and_both _ _ b).0 (and_both _ _ e).0)) f.1 n b r e

module_type_row : {k : ScopeKind} → HoldsTypes k → (ls : Leaves) → RowGiven (λ x. DefPrintable k (row rows.ModuleType x)) (t.type_scope kinds.ModuleType) (definition_line rows.ModuleType) ls
module_type_row {k} h ls f n b r e = one_leaf (Given (λ x. DefPrintable k (row rows.ModuleType x)) (t.type_scope kinds.ModuleType) (definition_line rows.ModuleType)) ls f.0
    (λ a f n b r e. module_type_made h (type_scope kinds.ModuleType (λ ds x. x) a f.0 r.0 (or_both _ _ n).0 (and_both _ _ b).0 (and_both _ _ e).0)) f.1 n b r e

-- ---- aliases of outer items, and custom sections

data PlaceLeaf : Leaf → Type 0 where
  outward : {n : ℕ} → Rattle.comp_wire.specs.Sections.Word n → PlaceLeaf (m.place (c.counted 0 n))

place_at : (a : Leaf) → FitsLeaf a t.outward → PlaceLeaf a
place_at (m.place (c.counted o n)) h = subst (λ z. PlaceLeaf (m.place (c.counted z n))) (sym h.0) (outward h.1)
place_at _ h = absurd h

data KindIs (s : Space) : Leaf → Type 0 where
  the_kind : KindIs s (m.kind s)

kind_is : (s : Space) (a : Leaf) → FitsLeaf a (t.kind_is s) → KindIs s a
kind_is s (m.kind u) h = subst (λ z. KindIs s (m.kind z)) (sym h) the_kind
kind_is s _ h = absurd h

outer_made : {k : ScopeKind} → HoldsTypes k → (s : Space) {a b d : Leaf} → PlaceLeaf a → IndexLeaf s b → KindIs s d → leaf_has d line.outer_kind ≡ true → DefPrintable k (row rows.AliasOuter (a ▸ b ▸ d ▸ no_leaf))
outer_made h s (outward w) (an_index x) the_kind e = DefPrintable.alias_outer h w x (outer_kind s e)

alias_outer_row : {k : ScopeKind} → HoldsTypes k → (ls : Leaves) → (length (fits_leaves ls) ≡ 3) × FitsPieces (t.outer 0 ∷ []) (fits_leaves ls) → line_has (definition_line rows.AliasOuter) (leaves_have (unnamed_leaves ls)) ≡ true → DefPrintable k (row rows.AliasOuter (unnamed_leaves ls))
alias_outer_row {k} h ls f e = three_leaves (λ ls. FitsPieces (t.outer 0 ∷ []) (fits_leaves ls) → line_has (definition_line rows.AliasOuter) (leaves_have (unnamed_leaves ls)) ≡ true → DefPrintable k (row rows.AliasOuter (unnamed_leaves ls))) ls f.0
    (λ a b d f e. outer_made h (f.0).0 (as_unnamed PlaceLeaf t.outward a refl (f.0).1 (place_at a (f.0).1)) (as_unnamed (IndexLeaf (f.0).0) (t.index_in (f.0).0) b refl (f.0).2 (index_at (f.0).0 b (f.0).2))
    (as_unnamed (KindIs (f.0).0) (t.kind_is (f.0).0) d refl (f.0).3 (kind_is (f.0).0 d (f.0).3)) (and_both _ _ (and_both _ _ (and_both _ _ e).1).1).0) f.1 e

module_alias_made : {a b d : Leaf} → PlaceLeaf a → IndexLeaf space.CoreType b → KindIs space.CoreType d → DefPrintable kinds.ModuleType (row rows.AliasOuter (a ▸ b ▸ d ▸ no_leaf))
module_alias_made (outward w) (an_index x) the_kind = DefPrintable.module_alias w x

module_alias_row : (ls : Leaves) → (length (fits_leaves ls) ≡ 3) × FitsPieces (t.leaf 0 t.outward ∷ t.leaf 1 (t.index_in space.CoreType) ∷ t.leaf 2 (t.kind_is space.CoreType) ∷ []) (fits_leaves ls) → DefPrintable kinds.ModuleType (row rows.AliasOuter (unnamed_leaves ls))
module_alias_row ls f = three_leaves (λ ls. FitsPieces (t.leaf 0 t.outward ∷ t.leaf 1 (t.index_in space.CoreType) ∷ t.leaf 2 (t.kind_is space.CoreType) ∷ []) (fits_leaves ls) → DefPrintable kinds.ModuleType (row rows.AliasOuter (unnamed_leaves ls))) ls f.0
    (λ a b d f. module_alias_made (as_unnamed PlaceLeaf t.outward a refl f.0 (place_at a f.0)) (as_unnamed (IndexLeaf space.CoreType) (t.index_in space.CoreType) b refl f.1.0 (index_at space.CoreType b f.1.0)) (as_unnamed (KindIs space.CoreType) (t.kind_is space.CoreType) d refl f.1.1.0 (kind_is space.CoreType d f.1.1.0))) f.1

data PayloadLeaf : Leaf → Type 0 where
  a_payload : {x : Text} → Bytes x → PayloadLeaf (m.text x)

payload_at : (a : Leaf) → FitsLeaf a t.rest → leaf_has_bytes a ≡ true → PayloadLeaf a
payload_at (m.text x) h b = a_payload b
payload_at _ h b = absurd h

custom_made : {a b : Leaf} → TextLeaf a → PayloadLeaf b → DefPrintable kinds.Component (row rows.Custom (a ▸ b ▸ no_leaf))
custom_made (a_text x) (a_payload y) = DefPrintable.custom x y

custom_row : (ls : Leaves) → (length (fits_leaves ls) ≡ 2) × FitsPieces (t.leaf 0 t.string ∷ t.leaf 1 t.rest ∷ []) (fits_leaves ls) → leaves_have_bytes ls ≡ true → line_has (definition_line rows.Custom) (leaves_have (unnamed_leaves ls)) ≡ true → DefPrintable kinds.Component (row rows.Custom (unnamed_leaves ls))
custom_row ls f b e = two_leaves (λ ls. FitsPieces (t.leaf 0 t.string ∷ t.leaf 1 t.rest ∷ []) (fits_leaves ls) → leaves_have_bytes ls ≡ true → line_has (definition_line rows.Custom) (leaves_have (unnamed_leaves ls)) ≡ true → DefPrintable kinds.Component (row rows.Custom (unnamed_leaves ls))) ls f.0
    (λ a d f b e. custom_made (as_unnamed TextLeaf t.string a refl f.0 (text_at a f.0 (as_named t.string line.string a refl f.0 (and_both _ _ e).0))) (as_unnamed PayloadLeaf t.rest d refl f.1.0 (payload_at d f.1.0 (and_both _ _ (and_both _ _ b).1).0))) f.1 b e

-- ---- rows by their scope

in_component : (u : Row) (ls : Leaves) → FitsItem (row u ls) → (is_core_module u || leaves_hold_module ls) ≡ false → leaves_have_bytes ls ≡ true → LeavesMade ls → line_has (definition_in kinds.Component u) (leaves_have (unnamed_leaves ls)) ≡ true → DefPrintable kinds.Component (row u (unnamed_leaves ls))
in_component rows.Primitive ls f n b r e = types.primitive_row HoldsTypes.a_component ls f e
in_component rows.RecordType ls f n b r e = types.record_type_row HoldsTypes.a_component ls f e
in_component rows.VariantType ls f n b r e = types.variant_type_row HoldsTypes.a_component ls f e
in_component rows.ListType ls f n b r e = types.list_type_row HoldsTypes.a_component ls f e
in_component rows.FixedLengthListType ls f n b r e = types.fixed_length_list_type_row HoldsTypes.a_component ls f e
in_component rows.TupleType ls f n b r e = types.tuple_type_row HoldsTypes.a_component ls f e
in_component rows.FlagsType ls f n b r e = types.flags_type_row HoldsTypes.a_component ls f e
in_component rows.EnumType ls f n b r e = types.enum_type_row HoldsTypes.a_component ls f e
in_component rows.OptionType ls f n b r e = types.option_type_row HoldsTypes.a_component ls f e
in_component rows.ResultType ls f n b r e = types.result_type_row HoldsTypes.a_component ls f e
in_component rows.OwnType ls f n b r e = types.own_type_row HoldsTypes.a_component ls f e
in_component rows.BorrowType ls f n b r e = types.borrow_type_row HoldsTypes.a_component ls f e
in_component rows.StreamType ls f n b r e = types.stream_type_row HoldsTypes.a_component ls f e
in_component rows.FutureType ls f n b r e = types.future_type_row HoldsTypes.a_component ls f e
in_component rows.FunctionType ls f n b r e = types.function_type_row HoldsTypes.a_component ls f e
in_component rows.ResourceType ls f n b r e = types.resource_type_row HoldsTypes.a_component ls f e
in_component rows.CoreFunctionType ls f n b r e = types.core_function_type_row HoldsTypes.a_component ls f e
in_component rows.CoreRec ls f n b r e = types.core_rec_row HoldsTypes.a_component ls f e
in_component rows.AliasExport ls f n b r e = types.alias_export_row HoldsTypes.a_component ls f e
in_component rows.AliasCoreExport ls f n b r e = types.alias_core_export_row HoldsTypes.a_component ls f e
in_component rows.ComponentType ls f n b r e = component_type_row HoldsTypes.a_component ls f n b r e
in_component rows.InstanceType ls f n b r e = instance_type_row HoldsTypes.a_component ls f n b r e
in_component rows.ModuleType ls f n b r e = module_type_row HoldsTypes.a_component ls f n b r e
in_component rows.AliasOuter ls f n b r e = alias_outer_row HoldsTypes.a_component ls f e
in_component rows.CoreInstantiate ls f n b r e = items.core_instantiate_row ls f e
in_component rows.CoreBundle ls f n b r e = items.core_bundle_row ls f e
in_component rows.Instantiate ls f n b r e = items.instantiate_row ls f e
in_component rows.Bundle ls f n b r e = items.bundle_row ls f e
in_component rows.Lift ls f n b r e = items.lift_row ls f e
in_component rows.Lower ls f n b r e = items.lower_row ls f e
in_component rows.Start ls f n b r e = items.start_row ls f e
in_component rows.Import ls f n b r e = items.import_row_row ls f e
in_component rows.Export ls f n b r e = items.export_row_row ls f e
in_component rows.TaskReturn ls f n b r e = items.task_return_row ls f e
in_component rows.ThreadSpawnIndirect ls f n b r e = items.thread_spawn_indirect_row ls f e
in_component rows.ThreadSpawnRef ls f n b r e = items.thread_spawn_ref_row ls f e
in_component rows.SubtaskCancel ls f n b r e = items.subtask_cancel_row ls f e
in_component rows.ResourceNew ls f n b r e = items.resource_new_row ls f e
in_component rows.ResourceDrop ls f n b r e = items.resource_drop_row ls f e
in_component rows.ResourceRep ls f n b r e = items.resource_rep_row ls f e
in_component rows.StreamNew ls f n b r e = items.stream_new_row ls f e
in_component rows.StreamDropReadable ls f n b r e = items.stream_drop_readable_row ls f e
in_component rows.StreamDropWritable ls f n b r e = items.stream_drop_writable_row ls f e
in_component rows.FutureNew ls f n b r e = items.future_new_row ls f e
in_component rows.FutureDropReadable ls f n b r e = items.future_drop_readable_row ls f e
in_component rows.FutureDropWritable ls f n b r e = items.future_drop_writable_row ls f e
in_component rows.StreamRead ls f n b r e = items.stream_read_row ls f e
in_component rows.StreamWrite ls f n b r e = items.stream_write_row ls f e
in_component rows.FutureRead ls f n b r e = items.future_read_row ls f e
in_component rows.FutureWrite ls f n b r e = items.future_write_row ls f e
in_component rows.StreamCancelRead ls f n b r e = items.stream_cancel_read_row ls f e
in_component rows.StreamCancelWrite ls f n b r e = items.stream_cancel_write_row ls f e
in_component rows.FutureCancelRead ls f n b r e = items.future_cancel_read_row ls f e
in_component rows.FutureCancelWrite ls f n b r e = items.future_cancel_write_row ls f e
in_component rows.ContextGet ls f n b r e = items.context_get_row ls f e
in_component rows.ContextSet ls f n b r e = items.context_set_row ls f e
in_component rows.ErrorContextNew ls f n b r e = items.error_context_new_row ls f e
in_component rows.ErrorContextDebugMessage ls f n b r e = items.error_context_debug_message_row ls f e
in_component rows.TaskCancel ls f n b r e = items.task_cancel_row ls f e
in_component rows.SubtaskDrop ls f n b r e = items.subtask_drop_row ls f e
in_component rows.ErrorContextDrop ls f n b r e = items.error_context_drop_row ls f e
in_component rows.WaitableSetNew ls f n b r e = items.waitable_set_new_row ls f e
in_component rows.WaitableSetDrop ls f n b r e = items.waitable_set_drop_row ls f e
in_component rows.WaitableJoin ls f n b r e = items.waitable_join_row ls f e
in_component rows.BackpressureInc ls f n b r e = items.backpressure_inc_row ls f e
in_component rows.BackpressureDec ls f n b r e = items.backpressure_dec_row ls f e
in_component rows.ThreadAvailableParallelism ls f n b r e = items.thread_available_parallelism_row ls f e
in_component rows.Component ls f n b r e = component_row ls f n b r e
in_component rows.Custom ls f n b r e = custom_row ls f b e
in_component rows.CoreModule ls f n b r e = absurd (not_false n)
in_component _ ls f n b r e = absurd f

in_component_type : (u : Row) (ls : Leaves) → FitsNode (row u ls) t.component_declarations → leaves_hold_module ls ≡ false → leaves_have_bytes ls ≡ true → LeavesMade ls → line_has (definition_in kinds.ComponentType u) (leaves_have (unnamed_leaves ls)) ≡ true → DefPrintable kinds.ComponentType (row u (unnamed_leaves ls))
in_component_type rows.Primitive ls f n b r e = types.primitive_row HoldsTypes.a_component_type ls f e
in_component_type rows.RecordType ls f n b r e = types.record_type_row HoldsTypes.a_component_type ls f e
in_component_type rows.VariantType ls f n b r e = types.variant_type_row HoldsTypes.a_component_type ls f e
in_component_type rows.ListType ls f n b r e = types.list_type_row HoldsTypes.a_component_type ls f e
in_component_type rows.FixedLengthListType ls f n b r e = types.fixed_length_list_type_row HoldsTypes.a_component_type ls f e
in_component_type rows.TupleType ls f n b r e = types.tuple_type_row HoldsTypes.a_component_type ls f e
in_component_type rows.FlagsType ls f n b r e = types.flags_type_row HoldsTypes.a_component_type ls f e
in_component_type rows.EnumType ls f n b r e = types.enum_type_row HoldsTypes.a_component_type ls f e
in_component_type rows.OptionType ls f n b r e = types.option_type_row HoldsTypes.a_component_type ls f e
in_component_type rows.ResultType ls f n b r e = types.result_type_row HoldsTypes.a_component_type ls f e
in_component_type rows.OwnType ls f n b r e = types.own_type_row HoldsTypes.a_component_type ls f e
in_component_type rows.BorrowType ls f n b r e = types.borrow_type_row HoldsTypes.a_component_type ls f e
in_component_type rows.StreamType ls f n b r e = types.stream_type_row HoldsTypes.a_component_type ls f e
in_component_type rows.FutureType ls f n b r e = types.future_type_row HoldsTypes.a_component_type ls f e
in_component_type rows.FunctionType ls f n b r e = types.function_type_row HoldsTypes.a_component_type ls f e
in_component_type rows.ResourceType ls f n b r e = types.resource_type_row HoldsTypes.a_component_type ls f e
in_component_type rows.CoreFunctionType ls f n b r e = types.core_function_type_row HoldsTypes.a_component_type ls f e
in_component_type rows.CoreRec ls f n b r e = types.core_rec_row HoldsTypes.a_component_type ls f e
in_component_type rows.AliasExport ls f n b r e = types.alias_export_row HoldsTypes.a_component_type ls f e
in_component_type rows.AliasCoreExport ls f n b r e = types.alias_core_export_row HoldsTypes.a_component_type ls f e
in_component_type rows.ComponentType ls f n b r e = component_type_row HoldsTypes.a_component_type ls f n b r e
in_component_type rows.InstanceType ls f n b r e = instance_type_row HoldsTypes.a_component_type ls f n b r e
in_component_type rows.ModuleType ls f n b r e = module_type_row HoldsTypes.a_component_type ls f n b r e
in_component_type rows.AliasOuter ls f n b r e = alias_outer_row HoldsTypes.a_component_type ls f e
in_component_type rows.Import ls f n b r e = declarations.component_import_row ls f e
in_component_type rows.ExportType ls f n b r e = declarations.component_export_row ls f e
in_component_type _ ls f n b r e = absurd f

in_instance_type : (u : Row) (ls : Leaves) → FitsNode (row u ls) t.instance_declarations → leaves_hold_module ls ≡ false → leaves_have_bytes ls ≡ true → LeavesMade ls → line_has (definition_in kinds.InstanceType u) (leaves_have (unnamed_leaves ls)) ≡ true → DefPrintable kinds.InstanceType (row u (unnamed_leaves ls))
in_instance_type rows.Primitive ls f n b r e = types.primitive_row HoldsTypes.an_instance_type ls f e
in_instance_type rows.RecordType ls f n b r e = types.record_type_row HoldsTypes.an_instance_type ls f e
in_instance_type rows.VariantType ls f n b r e = types.variant_type_row HoldsTypes.an_instance_type ls f e
in_instance_type rows.ListType ls f n b r e = types.list_type_row HoldsTypes.an_instance_type ls f e
in_instance_type rows.FixedLengthListType ls f n b r e = types.fixed_length_list_type_row HoldsTypes.an_instance_type ls f e
in_instance_type rows.TupleType ls f n b r e = types.tuple_type_row HoldsTypes.an_instance_type ls f e
in_instance_type rows.FlagsType ls f n b r e = types.flags_type_row HoldsTypes.an_instance_type ls f e
in_instance_type rows.EnumType ls f n b r e = types.enum_type_row HoldsTypes.an_instance_type ls f e
in_instance_type rows.OptionType ls f n b r e = types.option_type_row HoldsTypes.an_instance_type ls f e
in_instance_type rows.ResultType ls f n b r e = types.result_type_row HoldsTypes.an_instance_type ls f e
in_instance_type rows.OwnType ls f n b r e = types.own_type_row HoldsTypes.an_instance_type ls f e
in_instance_type rows.BorrowType ls f n b r e = types.borrow_type_row HoldsTypes.an_instance_type ls f e
in_instance_type rows.StreamType ls f n b r e = types.stream_type_row HoldsTypes.an_instance_type ls f e
in_instance_type rows.FutureType ls f n b r e = types.future_type_row HoldsTypes.an_instance_type ls f e
in_instance_type rows.FunctionType ls f n b r e = types.function_type_row HoldsTypes.an_instance_type ls f e
in_instance_type rows.ResourceType ls f n b r e = types.resource_type_row HoldsTypes.an_instance_type ls f e
in_instance_type rows.CoreFunctionType ls f n b r e = types.core_function_type_row HoldsTypes.an_instance_type ls f e
in_instance_type rows.CoreRec ls f n b r e = types.core_rec_row HoldsTypes.an_instance_type ls f e
in_instance_type rows.AliasExport ls f n b r e = types.alias_export_row HoldsTypes.an_instance_type ls f e
in_instance_type rows.AliasCoreExport ls f n b r e = types.alias_core_export_row HoldsTypes.an_instance_type ls f e
in_instance_type rows.ComponentType ls f n b r e = component_type_row HoldsTypes.an_instance_type ls f n b r e
in_instance_type rows.InstanceType ls f n b r e = instance_type_row HoldsTypes.an_instance_type ls f n b r e
in_instance_type rows.ModuleType ls f n b r e = module_type_row HoldsTypes.an_instance_type ls f n b r e
in_instance_type rows.AliasOuter ls f n b r e = alias_outer_row HoldsTypes.an_instance_type ls f e
in_instance_type rows.ExportType ls f n b r e = declarations.instance_export_row ls f e
in_instance_type _ ls f n b r e = absurd f

in_module_type : (u : Row) (ls : Leaves) → FitsNode (row u ls) t.module_declarations → line_has (definition_in kinds.ModuleType u) (leaves_have (unnamed_leaves ls)) ≡ true → DefPrintable kinds.ModuleType (row u (unnamed_leaves ls))
in_module_type rows.CoreFunctionType ls f e = declarations.module_function_row ls f e
in_module_type rows.CoreRec ls f e = declarations.module_rec_row ls f e
in_module_type rows.AliasOuter ls f e = module_alias_row ls f
in_module_type rows.ModuleImport ls f e = declarations.module_import_row ls f e
in_module_type rows.ModuleExport ls f e = declarations.module_export_row ls f e
in_module_type rows.ModuleType ls f e = absurd (not_true e)
in_module_type _ ls f e = absurd f

-- ---- all definitions

def_made : (k : ScopeKind) (u : Row) (ls : Leaves) → FitsDef k (row u ls) → (is_core_module u || leaves_hold_module ls) ≡ false → leaves_have_bytes ls ≡ true → LeavesMade ls → definition_has k (row u (unnamed_leaves ls)) ≡ true → DefPrintable k (row u (unnamed_leaves ls))
def_made kinds.Component u ls f n b r e = in_component u ls f n b r e
def_made kinds.ComponentType u ls f n b r e = in_component_type u ls f (or_both _ _ n).1 b r e
def_made kinds.InstanceType u ls f n b r e = in_instance_type u ls f (or_both _ _ n).1 b r e
def_made kinds.ModuleType u ls f n b r e = in_module_type u ls f e

record Split (k : ScopeKind) (names : Names) (n : Node) (ds : Defs) : Type 0 where
  nameless : names ≡ no_names
  first : FitsDef k n
  rest : FitsDefs k ds

split : (k : ScopeKind) (names : Names) (n : Node) (ds : Defs) → FitsDefs k (one_def (define names n) ds) → Split k names n ds
split kinds.Component names n ds h = record { nameless = (h.0).0; first = (h.0).1; rest = h.1 }
split kinds.ComponentType names n ds h = record { nameless = (h.0).0; first = (h.0).1; rest = h.1 }
split kinds.InstanceType names n ds h = record { nameless = (h.0).0; first = (h.0).1; rest = h.1 }
split kinds.ModuleType names n ds h = record { nameless = (h.0).0; first = (h.0).1; rest = h.1 }

unless : (k : ScopeKind) (named : Bool) (n : Node) (ds : Defs) → definitions_have k (unless_names named (define no_names n) ds) ≡ true → (definition_has k n ≡ true → DefPrintable k n) → (definitions_have k ds ≡ true → DefsPrintable k ds) → DefsPrintable k (unless_names named (define no_names n) ds)
unless k true n ds e f g = g e
unless k false n ds e f g = let s = and_both (definition_has k n) _ e in DefsPrintable.one_more (f s.0) (g s.1)

one_made : (names : Names) (u : Row) (ls : Leaves) (ds : Defs) → LeavesMade ls → DefsMade ds → DefsMade (one_def (define names (row u ls)) ds)
one_made names u ls ds r rest k f n b e =
    let p = split k names (row u ls) ds f in
    let v = or_both (is_core_module u || leaves_hold_module ls) _ n in
    let w = and_both (leaves_have_bytes ls) _ b in
    subst (λ z. definitions_have k (unless_names (is_name_section u ls) (define z (row u (unnamed_leaves ls))) (unnamed_defs ds)) ≡ true → DefsPrintable k (unless_names (is_name_section u ls) (define z (row u (unnamed_leaves ls))) (unnamed_defs ds))) (sym p.nameless)
    (λ e. unless k (is_name_section u ls) (row u (unnamed_leaves ls)) (unnamed_defs ds) e (λ x. def_made k u ls p.first v.0 w.0 r x) (λ x. rest k p.rest v.1 w.1 x)) e

mutual
  leaf_made : (l : Leaf) → LeafMade l
  leaf_made (m.scope (scope_of k id label ds)) = defs_made ds
  leaf_made _ = tt

  leaves_made : (ls : Leaves) → LeavesMade ls
  leaves_made no_leaf = tt
  leaves_made (l ▸ ls) = (leaf_made l, leaves_made ls)

  defs_made : (ds : Defs) → DefsMade ds
  defs_made no_def = λ k f n b e. DefsPrintable.no_more
  defs_made (one_def (define names (row u ls)) ds) = one_made names u ls ds (leaves_made ls) (defs_made ds)

scope_made : (k : ScopeKind) (id : Option Id) (label : Option Text) (ds : Defs) → k ≡ kinds.Component → id ≡ None → label ≡ None → DefsPrintable kinds.Component ds → IsPrintable (scope_of k id label ds)
scope_made k id label ds e f g h =
    subst (λ k. IsPrintable (scope_of k id label ds)) (sym e) (subst (λ i. IsPrintable (scope_of kinds.Component i label ds)) (sym f) (subst (λ l. IsPrintable (scope_of kinds.Component None l ds)) (sym g) (IsPrintable.of_definitions h)))

pub passing_is_printable : (b : Scope) → FitsComponent b → has_bytes b ≡ true → holds_module b ≡ false → has_text (unnamed b) ≡ true → IsPrintable (unnamed b)
passing_is_printable (scope_of k id label ds) h b n e =
    let f = fits_sections (scope_of k id label ds) h in
    scope_made k id label (unnamed_defs ds) f.0 f.1 f.2 (defs_made ds kinds.Component f.3 n b (subst (λ k. definitions_have k (unnamed_defs ds) ≡ true) f.0 e))
