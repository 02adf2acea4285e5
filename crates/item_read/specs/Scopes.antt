-- Definitions of all kinds, and the scopes that some of them hold.
use Rattle.std.specs.Prelude.{◌≡◌}
use Rattle.comp_model.specs.declared.row.Row.{Row}
use Rattle.comp_model.specs.declared.row.Row.TheVariants as rows
use Rattle.comp_model.specs.declared.row.ScopeKind.{ScopeKind}
use Rattle.comp_model.specs.declared.row.ScopeKind.TheVariants as kinds
use Rattle.comp_model.specs.Model as m
use Rattle.comp_model.specs.Model.{Leaf, Leaves, Node, row, Def, define, Defs, no_def, one_def, Scope, scope_of, kind_of}
use Rattle.comp_wire.specs.Spelled.{FitsDefinitions, FitsDeclarations, declarations_of}
use Rattle.item_read.specs.declared.kinds.Kind.{Kind}
use Rattle.item_read.specs.declared.kinds.Kind.TheVariants as kind
use Rattle.item_read.specs.Parts.{count, at}
use Rattle.item_read.specs.Rows.{IsAlias, IsCoreType, IsType, IsListedType, IsBuiltIn, IsOfType, IsCanon, IsWithOptions, IsPlain, IsDeclared, IsListed}

-- the kind of a canonical function, by its row
abbrev pub kind_of_canon : Row → Kind
kind_of_canon rows.TaskCancel = kind.BuiltIn
kind_of_canon rows.SubtaskDrop = kind.BuiltIn
kind_of_canon rows.ErrorContextDrop = kind.BuiltIn
kind_of_canon rows.WaitableSetNew = kind.BuiltIn
kind_of_canon rows.WaitableSetDrop = kind.BuiltIn
kind_of_canon rows.WaitableJoin = kind.BuiltIn
kind_of_canon rows.BackpressureInc = kind.BuiltIn
kind_of_canon rows.BackpressureDec = kind.BuiltIn
kind_of_canon rows.ThreadAvailableParallelism = kind.BuiltIn
kind_of_canon rows.ResourceNew = kind.OfType
kind_of_canon rows.ResourceDrop = kind.OfType
kind_of_canon rows.ResourceRep = kind.OfType
kind_of_canon rows.StreamNew = kind.OfType
kind_of_canon rows.StreamDropReadable = kind.OfType
kind_of_canon rows.StreamDropWritable = kind.OfType
kind_of_canon rows.FutureNew = kind.OfType
kind_of_canon rows.FutureDropReadable = kind.OfType
kind_of_canon rows.FutureDropWritable = kind.OfType
kind_of_canon rows.Lift = kind.WithOptions
kind_of_canon rows.Lower = kind.WithOptions
kind_of_canon rows.TaskReturn = kind.WithOptions
kind_of_canon rows.StreamRead = kind.WithOptions
kind_of_canon rows.StreamWrite = kind.WithOptions
kind_of_canon rows.FutureRead = kind.WithOptions
kind_of_canon rows.FutureWrite = kind.WithOptions
kind_of_canon rows.ErrorContextNew = kind.WithOptions
kind_of_canon rows.ErrorContextDebugMessage = kind.WithOptions
kind_of_canon _ = kind.Canon

-- the kind of a definition, by its row: one of no other kind counts as a canonical function
abbrev pub kind_of_row : Row → Kind
kind_of_row rows.CoreFunctionType = kind.CoreType
kind_of_row rows.CoreRec = kind.CoreType
kind_of_row rows.AliasExport = kind.Alias
kind_of_row rows.AliasCoreExport = kind.Alias
kind_of_row rows.AliasOuter = kind.Alias
kind_of_row rows.Primitive = kind.Ty
kind_of_row rows.ListType = kind.Ty
kind_of_row rows.FixedLengthListType = kind.Ty
kind_of_row rows.OptionType = kind.Ty
kind_of_row rows.ResultType = kind.Ty
kind_of_row rows.OwnType = kind.Ty
kind_of_row rows.BorrowType = kind.Ty
kind_of_row rows.StreamType = kind.Ty
kind_of_row rows.FutureType = kind.Ty
kind_of_row rows.ResourceType = kind.Ty
kind_of_row rows.RecordType = kind.ListedType
kind_of_row rows.VariantType = kind.ListedType
kind_of_row rows.TupleType = kind.ListedType
kind_of_row rows.FlagsType = kind.ListedType
kind_of_row rows.EnumType = kind.ListedType
kind_of_row rows.FunctionType = kind.ListedType
kind_of_row rows.CoreModule = kind.Plain
kind_of_row rows.Import = kind.Plain
kind_of_row rows.Export = kind.Plain
kind_of_row rows.Custom = kind.Plain
kind_of_row rows.ExportType = kind.Declared
kind_of_row rows.ModuleImport = kind.Declared
kind_of_row rows.ModuleExport = kind.Declared
kind_of_row rows.CoreInstantiate = kind.Listed
kind_of_row rows.CoreBundle = kind.Listed
kind_of_row rows.Instantiate = kind.Listed
kind_of_row rows.Bundle = kind.Listed
kind_of_row rows.Start = kind.Listed
kind_of_row rows.Component = kind.Scope
kind_of_row rows.ComponentType = kind.Scope
kind_of_row rows.InstanceType = kind.Scope
kind_of_row rows.ModuleType = kind.Scope
kind_of_row u = kind_of_canon u

-- what the definitions of a scope of this kind are, by the table of bytes
abbrev pub DefsFit : ScopeKind → Defs → Type 0
DefsFit kinds.Component ds = FitsDefinitions ds
DefsFit k ds = FitsDeclarations ds (declarations_of k)

abbrev pub ScopeFits : Scope → Type 0
ScopeFits (scope_of k id label ds) = DefsFit k ds

abbrev pub defs_in : Scope → Defs
defs_in (scope_of k id label ds) = ds

-- the rows that hold a scope, and of which kind
abbrev pub HoldsScope : Row → Type 0
HoldsScope rows.Component = Unit {0}
HoldsScope rows.ComponentType = Unit {0}
HoldsScope rows.InstanceType = Unit {0}
HoldsScope rows.ModuleType = Unit {0}
HoldsScope _ = ⊥

abbrev pub held_kind : Row → ScopeKind
held_kind rows.Component = kinds.Component
held_kind rows.ComponentType = kinds.ComponentType
held_kind rows.InstanceType = kinds.InstanceType
held_kind _ = kinds.ModuleType

abbrev pub IsScope : ScopeKind → Leaf → Type 0
IsScope k (m.scope s) = (kind_of s ≡ k) × ScopeFits s
IsScope k _ = ⊥

abbrev pub HoldsOne : Node → Type 0
HoldsOne (row u ls) = HoldsScope u × (count ls ≡ 1) × IsScope (held_kind u) (at 0 ls)

-- a definition of this kind has just the leaves of its row
abbrev pub IsOfKind : Kind → Node → Type 0
IsOfKind kind.CoreType = IsCoreType
IsOfKind kind.Alias = IsAlias
IsOfKind kind.Ty = IsType
IsOfKind kind.ListedType = IsListedType
IsOfKind kind.BuiltIn = IsBuiltIn
IsOfKind kind.OfType = IsOfType
IsOfKind kind.Canon = IsCanon
IsOfKind kind.WithOptions = IsWithOptions
IsOfKind kind.Plain = IsPlain
IsOfKind kind.Declared = IsDeclared
IsOfKind kind.Listed = IsListed
IsOfKind kind.Scope = HoldsOne

abbrev pub IsDefinition : Node → Type 0
IsDefinition (row u ls) = IsOfKind (kind_of_row u) (row u ls)

abbrev pub AreDefinitions : Defs → Type 0
AreDefinitions no_def = Unit {0}
AreDefinitions (one_def (define names n) ds) = IsDefinition n × AreDefinitions ds
