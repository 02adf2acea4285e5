-- The component that a tree stands for: the row of each definition, made of its fields (Component Model, binary format).
use Rattle.std.specs.Prelude.{ℕ, List, [], ◌∷◌, None}
use Rattle.std.specs.Borrow.{Bor}
use Rattle.comp_model.specs.declared.Space.{Space}
use Rattle.comp_model.specs.declared.Space.TheVariants as space
use Rattle.comp_model.specs.Core.{Text, counted}
use Rattle.comp_model.specs.Model as m
use Rattle.comp_model.specs.declared.row.ScopeKind.TheVariants as kinds
use Rattle.comp_model.specs.Model.{Node, define, no_names, Defs, no_def, one_def, Scope, scope_of}
use Rattle.comp_model.specs.declared.row.ScopeKind.{ScopeKind}
use Rattle.comp_model.specs.Makers as make
use Rattle.comp_wire.specs.Values.{primitive_byte_of, value_of, optional_of, bit, index_of, rows_of_list, core_value_of, function_row, named_type_row, case_row, lone_type_row, lone_name_row, core_argument_row, start_argument_row, description_row, description_leaf, entity_row}
use Rattle.comp_wire.specs.Definitions.{canon_row}
use Rattle.item_tree.specs.declared.tree.Tree as t
use Rattle.item_tree.specs.declared.tree.Tree.{Tree}
use Rattle.item_tree.specs.declared.tree.Item.{Item}
use Rattle.item_tree.specs.declared.tree.Item as i
use Rattle.item_tree.specs.declared.tree.ItemCoreType.{ItemCoreType}
use Rattle.item_tree.specs.declared.tree.ItemCoreType as core
use Rattle.item_tree.specs.declared.tree.ItemType.{ItemType}
use Rattle.item_tree.specs.declared.tree.ItemType as ty
use Rattle.item_tree.specs.declared.tree.ItemAlias.{ItemAlias}
use Rattle.item_tree.specs.declared.tree.ItemAlias.TheVariants as alias

-- a name with a space and an index, in each of the lists that have such
abbrev pub core_export_row : Bor Text × Space × ℕ → Node
core_export_row p = make.core_bundle_export p.0.now p.1 (m.index p.2)

abbrev pub argument_row : Bor Text × Space × ℕ → Node
argument_row p = make.argument p.0.now p.1 (m.index p.2)

abbrev pub export_row : Bor Text × Space × ℕ → Node
export_row p = make.bundle_export (m.text p.0.now) p.1 (m.index p.2)

abbrev pub alias_row : ItemAlias → Node
alias_row (alias.InstanceExport n k x) = make.alias_export (m.index n) x.now k
alias_row (alias.CoreInstanceExport n k x) = make.alias_core_export (m.index n) x.now k
alias_row (alias.Outer count k n) = make.alias_outer (counted 0 count) (m.index n) k

abbrev mutual
  pub core_type_row : ItemCoreType → Node
  core_type_row (core.Func f) = function_row f
  core_type_row (core.Rec fs) = make.core_rec (rows_of_list function_row fs)
  core_type_row (core.Module' shape ds) = make.module_type (scope_of kinds.ModuleType None None (defs_of ds))

  pub type_row : ItemType → Node
  type_row (ty.Primitive p) = make.primitive (primitive_byte_of p)
  type_row (ty.Record fs) = make.record_type (rows_of_list named_type_row fs)
  type_row (ty.Variant cs) = make.variant_type (rows_of_list case_row cs)
  type_row (ty.List v) = make.list_type (value_of v)
  type_row (ty.FixedLengthList v n) = make.fixed_length_list_type (value_of v) n
  type_row (ty.Tuple vs) = make.tuple_type (rows_of_list lone_type_row vs)
  type_row (ty.Flags xs) = make.flags_type (rows_of_list lone_name_row xs)
  type_row (ty.Enum xs) = make.enum_type (rows_of_list lone_name_row xs)
  type_row (ty.Option v) = make.option_type (value_of v)
  type_row (ty.Result ok err) = make.result_type (optional_of value_of ok) (optional_of value_of err)
  type_row (ty.Own n) = make.own_type (m.index n)
  type_row (ty.Borrow n) = make.borrow_type (m.index n)
  type_row (ty.Stream v) = make.stream_type (optional_of value_of v)
  type_row (ty.Future v) = make.future_type (optional_of value_of v)
  type_row (ty.Func a ps r) = make.function_type (bit a) (rows_of_list named_type_row ps) (optional_of value_of r)
  type_row (ty.Component' shape ds) = make.component_type (scope_of kinds.ComponentType None None (defs_of ds))
  type_row (ty.Instance' shape ds) = make.instance_type (scope_of kinds.InstanceType None None (defs_of ds))
  type_row (ty.Resource rep dtor) = make.resource_type (core_value_of rep) (optional_of (index_of space.CoreFunc) dtor)

  pub item_row : Item → Node
  item_row (i.CoreModule x) = make.core_module (m.module_bytes x.now)
  item_row (i.CoreInstantiate n args) = make.core_instantiate (m.index n) (rows_of_list core_argument_row args)
  item_row (i.CoreBundle exports) = make.core_bundle (rows_of_list core_export_row exports)
  item_row (i.CoreType t) = core_type_row t
  item_row (i.Component' shape ds) = make.component (scope_of kinds.Component None None (defs_of ds))
  item_row (i.Instantiate n args) = make.instantiate (m.index n) (rows_of_list argument_row args)
  item_row (i.Bundle exports) = make.bundle (rows_of_list export_row exports)
  item_row (i.Alias a) = alias_row a
  item_row (i.Ty t) = type_row t
  item_row (i.Canon f) = canon_row f
  item_row (i.Start f args n) = make.start (m.index f) (rows_of_list start_argument_row args) (m.result_count n)
  item_row (i.Import x d) = make.import_row (m.text x.now) (description_row d)
  item_row (i.Export x d k n) = make.export_row (m.text x.now) (optional_of description_leaf d) k (m.index n)
  item_row (i.Custom x payload) = make.custom x.now payload.now
  item_row (i.ExportDecl x d) = make.export_type (m.text x.now) (description_row d)
  item_row (i.ModuleImport y x e) = make.module_import y.now x.now (entity_row e)
  item_row (i.ModuleExport x e) = make.module_export x.now (entity_row e)

  -- the definitions of a tree in an item
  pub defs_of : {n : _} → t.Row_of-Item n → Defs
  defs_of t.end_of-Item = no_def
  defs_of (t.more_of-Item d ds) = one_def (define no_names (item_row d)) (defs_of ds)

-- the definitions of a list
abbrev pub defs_listed : List Item → Defs
defs_listed [] = no_def
defs_listed (d ∷ ds) = one_def (define no_names (item_row d)) (defs_listed ds)

-- the scope of a tree, by its kind
abbrev pub scope_of_tree : ScopeKind → Tree → Scope
scope_of_tree k t = scope_of k None None (defs_listed t.defs)

-- The component that a tree stands for.
abbrev pub component_of : Tree → Scope
component_of t = scope_of_tree kinds.Component t
