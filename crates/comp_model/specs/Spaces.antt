-- What a definition declares, and the items of a scope in order (Component Model, "Index Spaces").
use Rattle.std.specs.Prelude.{ℕ, zero, suc, ◌+◌, ◌==◌, cond, Bool, ◌&&◌, false, List, [], ◌∷◌, ◌++◌, length, replicate, filter, find, slice_get, Option, Some, None}
use Rattle.comp_model.specs.declared.Space.{Space}
use Rattle.comp_model.specs.declared.Space.TheVariants.{CoreFunc, CoreTable, CoreMemory, CoreGlobal, CoreTag, CoreType, CoreModule, CoreInstance, Func, Value, Ty, Component, Instance}
use Rattle.comp_model.specs.declared.declares.Declares.{Declares}
use Rattle.comp_model.specs.declared.declares.Declares.TheVariants.{Always, ByKind, ByDescription, ByReference, ByList, ByResults, Nothing}
use Rattle.comp_model.specs.declared.row.Row.TheVariants as rows
use Rattle.comp_model.specs.declared.row.Row.{Row}
use Rattle.comp_model.specs.RowNumbers.{is_row, canonical_core_rows, unwritten_canonical_rows}
use Rattle.comp_model.specs.Core.{Id, same_id}
use Rattle.comp_model.specs.Model as m
use Rattle.comp_model.specs.Model.{Leaf, Leaves, no_leaf, ◌▸◌, Node, row, count_nodes, Names, Def, define, Defs, no_def, one_def, Scope, defs_of}

-- a number for each space
abbrev pub code_of_space : Space → ℕ
code_of_space CoreFunc = 0
code_of_space CoreTable = 1
code_of_space CoreMemory = 2
code_of_space CoreGlobal = 3
code_of_space CoreTag = 4
code_of_space CoreType = 5
code_of_space CoreModule = 6
code_of_space CoreInstance = 7
code_of_space Func = 8
code_of_space Value = 9
code_of_space Ty = 10
code_of_space Component = 11
code_of_space Instance = 12

-- the spaces in the order of a name section
abbrev pub all_spaces : List Space
all_spaces = CoreFunc ∷ CoreTable ∷ CoreMemory ∷ CoreGlobal ∷ CoreTag ∷ CoreType ∷ CoreModule ∷ CoreInstance ∷ Func ∷ Value ∷ Ty ∷ Component ∷ Instance ∷ []

-- the space of a number
abbrev pub space_in : List Space → ℕ → Space
space_in [] n = CoreFunc
space_in (s ∷ ss) zero = s
space_in (s ∷ ss) (suc n) = space_in ss n

-- whether two spaces are one
abbrev pub same_space : Space → Space → Bool
same_space s t = code_of_space s == code_of_space t

-- the table of what each row declares
abbrev pub declares_by : Row → Declares
declares_by rows.CoreModule = Always CoreModule
declares_by rows.CoreInstantiate = Always CoreInstance
declares_by rows.CoreBundle = Always CoreInstance
declares_by rows.CoreFunctionType = Always CoreType
declares_by rows.CoreRec = ByList
declares_by rows.ModuleType = Always CoreType
declares_by rows.Component = Always Component
declares_by rows.Instantiate = Always Instance
declares_by rows.Bundle = Always Instance
declares_by rows.AliasExport = ByKind
declares_by rows.AliasCoreExport = ByKind
declares_by rows.AliasOuter = ByKind
declares_by rows.Start = ByResults
declares_by rows.Import = ByDescription
declares_by rows.Export = ByReference
declares_by rows.Primitive = Always Ty
declares_by rows.RecordType = Always Ty
declares_by rows.VariantType = Always Ty
declares_by rows.ListType = Always Ty
declares_by rows.FixedLengthListType = Always Ty
declares_by rows.TupleType = Always Ty
declares_by rows.FlagsType = Always Ty
declares_by rows.EnumType = Always Ty
declares_by rows.OptionType = Always Ty
declares_by rows.ResultType = Always Ty
declares_by rows.OwnType = Always Ty
declares_by rows.BorrowType = Always Ty
declares_by rows.StreamType = Always Ty
declares_by rows.FutureType = Always Ty
declares_by rows.FunctionType = Always Ty
declares_by rows.ComponentType = Always Ty
declares_by rows.InstanceType = Always Ty
declares_by rows.ResourceType = Always Ty
declares_by rows.MapType = Always Ty
declares_by rows.Lift = Always Func
declares_by rows.ExportType = ByDescription
declares_by rows.OtherCoreType = Always CoreType
-- each other canonical function makes a core function
declares_by t = cond (is_row t (canonical_core_rows ++ unwritten_canonical_rows)) (Always CoreFunc) Nothing

-- the space of the items that a description admits
abbrev pub described : Row → List Space
described rows.ModuleDescription = CoreModule ∷ []
described rows.FuncDescription = Func ∷ []
described rows.ValueDescription = Value ∷ []
described rows.TypeEq = Ty ∷ []
described rows.SubResource = Ty ∷ []
described rows.ComponentDescription = Component ∷ []
described rows.InstanceDescription = Instance ∷ []
described _ = []

-- at most one space
abbrev pub maybe_one : Option Space → List Space
maybe_one None = []
maybe_one (Some s) = s ∷ []

-- the spaces that one leaf gives
abbrev pub leaf_spaces : Leaf → Declares → List Space
leaf_spaces (m.kind s) ByKind = s ∷ []
leaf_spaces (m.node (row t ls)) ByDescription = described t
leaf_spaces (m.ref s t) ByReference = s ∷ []
leaf_spaces (m.nodes ns) ByList = replicate (count_nodes ns) CoreType
leaf_spaces (m.result_ids ids) ByResults = replicate (length ids) Value
leaf_spaces (m.result_count n) ByResults = replicate n Value
leaf_spaces _ _ = []

-- the spaces that the leaves give, in order
abbrev pub leaves_spaces : Leaves → Declares → List Space
leaves_spaces no_leaf d = []
leaves_spaces (l ▸ ls) d = leaf_spaces l d ++ leaves_spaces ls d

-- the spaces of a row: one that it Always has, none, or those that its leaves give
abbrev pub spaces_by : Declares → Leaves → List Space
spaces_by (Always s) ls = s ∷ []
spaces_by Nothing ls = []
spaces_by d ls = leaves_spaces ls d

-- the spaces in which a definition of this row declares an item, one for each part
abbrev pub declares_row : Row → Leaves → List Space
declares_row t ls = spaces_by (declares_by t) ls

-- the spaces in which a definition declares an item, one for each part
abbrev pub declares : Def → List Space
declares (define names (row t ls)) = declares_row t ls

-- part `part` of definition `definition` declares in `space`, under an id or none
pub record Declaration : Type 0 where
  pub space : Space
  pub id : Option Id
  pub definition : ℕ
  pub part : ℕ

-- the parts of definition k, the first of which has number p
abbrev pub parts : ℕ → ℕ → List (Option Id) → List Space → List Declaration
parts k p ids [] = []
parts k p [] (s ∷ ss) = record { space = s; id = None; definition = k; part = p } ∷ parts k (p + 1) [] ss
parts k p (x ∷ xs) (s ∷ ss) = record { space = s; id = x; definition = k; part = p } ∷ parts k (p + 1) xs ss

-- the declarations of these definitions, the first of which has number k
abbrev pub declarations_from : ℕ → Defs → List Declaration
declarations_from k no_def = []
declarations_from k (one_def (define names (row t ls)) ds) = parts k 0 names.ids (declares_row t ls) ++ declarations_from (k + 1) ds

-- all declarations of a scope, in order
abbrev pub declarations : Scope → List Declaration
declarations s = declarations_from 0 (defs_of s)

-- the items of a space that these definitions declare, the first of which has number k
abbrev pub items_from : Space → ℕ → Defs → List Declaration
items_from space k ds = filter (λ d. same_space space d.space) (declarations_from k ds)

-- item i of a space
abbrev pub item_of : Defs → Space → ℕ → Option Declaration
item_of ds space i = slice_get (items_from space 0 ds) i

-- the definition and part that declare item i of a space of the scope
abbrev pub at : Scope → Space → ℕ → Option Declaration
at s = item_of (defs_of s)

-- whether this is the id
abbrev pub bears : Id → Option Id → Bool
bears x None = false
bears x (Some y) = same_id x y

-- the first declaration of the space that bears the id
abbrev pub declared : Scope → Space → Id → Option Declaration
declared s space x = find (λ d. same_space space d.space && bears x d.id) (declarations s)

-- how many of these spaces are the one
abbrev pub count_in : Space → List Space → ℕ
count_in s ss = length (filter (same_space s) ss)

-- how many items of a space these definitions declare
abbrev pub count_items : Space → Defs → ℕ
count_items s no_def = 0
count_items s (one_def d ds) = count_in s (declares d) + count_items s ds

-- two runs of definitions, one behind the other
abbrev pub append_defs : Defs → Defs → Defs
append_defs no_def es = es
append_defs (one_def d ds) es = one_def d (append_defs ds es)
