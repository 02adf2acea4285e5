-- The leaves of each row, in order: a line for each (Component Model, binary format).
use Rattle.std.specs.Prelude.{◌≡◌}
use Rattle.comp_model.specs.declared.Space.TheVariants as space
use Rattle.comp_model.specs.declared.row.Row.{Row}
use Rattle.comp_model.specs.declared.row.Row.TheVariants as rows
use Rattle.comp_model.specs.Model.{Leaves, Node, row}
use Rattle.item_read.specs.Leaves.{IsText, IsModule, IsNumber, IsFlag, IsPrimitiveByte, IsValue, IsCoreValue, IsIndex, IsItem, IsKind, IsOutward, IsOfKind, IsNoId, IsResults, IsOptional, IsRow, IsList}
use Rattle.item_read.specs.Parts.{count, at, Nothing, One, Two, Three}

-- ---- rows that stand in others

abbrev pub IsNamedType : Node → Type 0
IsNamedType (row u ls) = (u ≡ rows.NamedType) × Two IsText IsValue ls

abbrev pub IsCase : Node → Type 0
IsCase (row u ls) = (u ≡ rows.CaseType) × Three IsNoId IsText (IsOptional IsValue) ls

abbrev pub IsLoneType : Node → Type 0
IsLoneType (row u ls) = (u ≡ rows.LoneType) × One IsValue ls

abbrev pub IsLoneName : Node → Type 0
IsLoneName (row u ls) = (u ≡ rows.LoneName) × One IsText ls

abbrev pub IsCoreValueType : Node → Type 0
IsCoreValueType (row u ls) = (u ≡ rows.CoreValueType) × One IsCoreValue ls

abbrev pub IsCoreFunction : Node → Type 0
IsCoreFunction (row u ls) = (u ≡ rows.CoreFunctionType) × Two (IsList IsCoreValueType) (IsList IsCoreValueType) ls

abbrev pub IsCoreArgument : Node → Type 0
IsCoreArgument (row u ls) = (u ≡ rows.CoreArgument) × Two IsText (IsIndex space.CoreInstance) ls

abbrev pub IsStartArgument : Node → Type 0
IsStartArgument (row u ls) = (u ≡ rows.StartArgument) × One (IsIndex space.Value) ls

-- a name and an item, in a row of this kind
abbrev pub IsNamedItem : Row → Node → Type 0
IsNamedItem r (row u ls) = (u ≡ r) × Two IsText IsItem ls

-- an option of a canonical function
abbrev pub OptionLeaves : Row → Leaves → Type 0
OptionLeaves rows.OptionUtf8 = Nothing
OptionLeaves rows.OptionUtf16 = Nothing
OptionLeaves rows.OptionLatin1Utf16 = Nothing
OptionLeaves rows.OptionMemory = One (IsIndex space.CoreMemory)
OptionLeaves rows.OptionRealloc = One (IsIndex space.CoreFunc)
OptionLeaves rows.OptionPostReturn = One (IsIndex space.CoreFunc)
OptionLeaves rows.OptionAsync = Nothing
OptionLeaves rows.OptionCallback = One (IsIndex space.CoreFunc)
OptionLeaves _ = λ ls. ⊥

abbrev pub IsOption : Node → Type 0
IsOption (row u ls) = OptionLeaves u ls

-- what an import or export is
abbrev pub DescriptionLeaves : Row → Leaves → Type 0
DescriptionLeaves rows.ModuleDescription = One (IsIndex space.CoreType)
DescriptionLeaves rows.FuncDescription = One (IsIndex space.Ty)
DescriptionLeaves rows.TypeEq = One (IsIndex space.Ty)
DescriptionLeaves rows.SubResource = Nothing
DescriptionLeaves rows.ComponentDescription = One (IsIndex space.Ty)
DescriptionLeaves rows.InstanceDescription = One (IsIndex space.Ty)
DescriptionLeaves _ = λ ls. ⊥

abbrev pub IsDescription : Node → Type 0
IsDescription (row u ls) = DescriptionLeaves u ls

-- what an import or export of a module type is
abbrev pub EntityLeaves : Row → Leaves → Type 0
EntityLeaves rows.FuncEntity = One (IsIndex space.CoreType)
EntityLeaves rows.TableEntity = Three IsCoreValue IsNumber (IsOptional IsNumber)
EntityLeaves rows.MemoryEntity = Two IsNumber (IsOptional IsNumber)
EntityLeaves rows.GlobalEntity = Two IsCoreValue IsFlag
EntityLeaves _ = λ ls. ⊥

abbrev pub IsEntity : Node → Type 0
IsEntity (row u ls) = EntityLeaves u ls

-- ---- definitions

-- how far outward, the index there, and the kind, which is the space of that index
abbrev pub Outer : Leaves → Type 0
Outer ls = (count ls ≡ 3) × IsOutward (at 0 ls) × IsItem (at 1 ls) × IsKind (at 2 ls) × IsOfKind (at 1 ls) (at 2 ls)

abbrev pub AliasLeaves : Row → Leaves → Type 0
AliasLeaves rows.AliasExport = Three (IsIndex space.Instance) IsText IsKind
AliasLeaves rows.AliasCoreExport = Three (IsIndex space.CoreInstance) IsText IsKind
AliasLeaves rows.AliasOuter = Outer
AliasLeaves _ = λ ls. ⊥

abbrev pub IsAlias : Node → Type 0
IsAlias (row u ls) = AliasLeaves u ls

-- a core type, but for that of a module
abbrev pub CoreTypeLeaves : Row → Leaves → Type 0
CoreTypeLeaves rows.CoreFunctionType = Two (IsList IsCoreValueType) (IsList IsCoreValueType)
CoreTypeLeaves rows.CoreRec = One (IsList IsCoreFunction)
CoreTypeLeaves _ = λ ls. ⊥

abbrev pub IsCoreType : Node → Type 0
IsCoreType (row u ls) = CoreTypeLeaves u ls

-- a type that holds no list and no declarations
abbrev pub TypeLeaves : Row → Leaves → Type 0
TypeLeaves rows.Primitive = One IsPrimitiveByte
TypeLeaves rows.ListType = One IsValue
TypeLeaves rows.FixedLengthListType = Two IsValue IsNumber
TypeLeaves rows.OptionType = One IsValue
TypeLeaves rows.ResultType = Two (IsOptional IsValue) (IsOptional IsValue)
TypeLeaves rows.OwnType = One (IsIndex space.Ty)
TypeLeaves rows.BorrowType = One (IsIndex space.Ty)
TypeLeaves rows.StreamType = One (IsOptional IsValue)
TypeLeaves rows.FutureType = One (IsOptional IsValue)
TypeLeaves rows.ResourceType = Two IsCoreValue (IsOptional (IsIndex space.CoreFunc))
TypeLeaves _ = λ ls. ⊥

abbrev pub IsType : Node → Type 0
IsType (row u ls) = TypeLeaves u ls

-- a type that holds a list
abbrev pub ListedTypeLeaves : Row → Leaves → Type 0
ListedTypeLeaves rows.RecordType = One (IsList IsNamedType)
ListedTypeLeaves rows.VariantType = One (IsList IsCase)
ListedTypeLeaves rows.TupleType = One (IsList IsLoneType)
ListedTypeLeaves rows.FlagsType = One (IsList IsLoneName)
ListedTypeLeaves rows.EnumType = One (IsList IsLoneName)
ListedTypeLeaves rows.FunctionType = Three IsFlag (IsList IsNamedType) (IsOptional IsValue)
ListedTypeLeaves _ = λ ls. ⊥

abbrev pub IsListedType : Node → Type 0
IsListedType (row u ls) = ListedTypeLeaves u ls

-- a canonical function that is named alone
abbrev pub BuiltIn : Row → Type 0
BuiltIn rows.TaskCancel = Unit {0}
BuiltIn rows.SubtaskDrop = Unit {0}
BuiltIn rows.ErrorContextDrop = Unit {0}
BuiltIn rows.WaitableSetNew = Unit {0}
BuiltIn rows.WaitableSetDrop = Unit {0}
BuiltIn rows.WaitableJoin = Unit {0}
BuiltIn rows.BackpressureInc = Unit {0}
BuiltIn rows.BackpressureDec = Unit {0}
BuiltIn rows.ThreadAvailableParallelism = Unit {0}
BuiltIn _ = ⊥

abbrev pub IsBuiltIn : Node → Type 0
IsBuiltIn (row u ls) = BuiltIn u × Nothing ls

-- a canonical function of a type
abbrev pub OfType : Row → Type 0
OfType rows.ResourceNew = Unit {0}
OfType rows.ResourceDrop = Unit {0}
OfType rows.ResourceRep = Unit {0}
OfType rows.StreamNew = Unit {0}
OfType rows.StreamDropReadable = Unit {0}
OfType rows.StreamDropWritable = Unit {0}
OfType rows.FutureNew = Unit {0}
OfType rows.FutureDropReadable = Unit {0}
OfType rows.FutureDropWritable = Unit {0}
OfType _ = ⊥

abbrev pub IsOfType : Node → Type 0
IsOfType (row u ls) = OfType u × One (IsIndex space.Ty) ls

-- another canonical function without options
abbrev pub CanonLeaves : Row → Leaves → Type 0
CanonLeaves rows.SubtaskCancel = One IsFlag
CanonLeaves rows.ContextGet = Two IsCoreValue IsNumber
CanonLeaves rows.ContextSet = Two IsCoreValue IsNumber
CanonLeaves rows.StreamCancelRead = Two (IsIndex space.Ty) IsFlag
CanonLeaves rows.StreamCancelWrite = Two (IsIndex space.Ty) IsFlag
CanonLeaves rows.FutureCancelRead = Two (IsIndex space.Ty) IsFlag
CanonLeaves rows.FutureCancelWrite = Two (IsIndex space.Ty) IsFlag
CanonLeaves rows.ThreadSpawnRef = One (IsIndex space.CoreType)
CanonLeaves rows.ThreadSpawnIndirect = Two (IsIndex space.CoreType) (IsIndex space.CoreTable)
CanonLeaves _ = λ ls. ⊥

abbrev pub IsCanon : Node → Type 0
IsCanon (row u ls) = CanonLeaves u ls

-- a canonical function with options
abbrev pub WithOptionsLeaves : Row → Leaves → Type 0
WithOptionsLeaves rows.Lift = Three (IsIndex space.Ty) (IsIndex space.CoreFunc) (IsList IsOption)
WithOptionsLeaves rows.Lower = Two (IsIndex space.Func) (IsList IsOption)
WithOptionsLeaves rows.TaskReturn = Two (IsOptional IsValue) (IsList IsOption)
WithOptionsLeaves rows.StreamRead = Two (IsIndex space.Ty) (IsList IsOption)
WithOptionsLeaves rows.StreamWrite = Two (IsIndex space.Ty) (IsList IsOption)
WithOptionsLeaves rows.FutureRead = Two (IsIndex space.Ty) (IsList IsOption)
WithOptionsLeaves rows.FutureWrite = Two (IsIndex space.Ty) (IsList IsOption)
WithOptionsLeaves rows.ErrorContextNew = One (IsList IsOption)
WithOptionsLeaves rows.ErrorContextDebugMessage = One (IsList IsOption)
WithOptionsLeaves _ = λ ls. ⊥

abbrev pub IsWithOptions : Node → Type 0
IsWithOptions (row u ls) = WithOptionsLeaves u ls

-- another definition of a component that holds no list and no scope
abbrev pub PlainLeaves : Row → Leaves → Type 0
PlainLeaves rows.CoreModule = One IsModule
PlainLeaves rows.Import = Two IsText (IsRow IsDescription)
PlainLeaves rows.Export = Three IsText (IsOptional (IsRow IsDescription)) IsItem
PlainLeaves rows.Custom = Two IsText IsText
PlainLeaves _ = λ ls. ⊥

abbrev pub IsPlain : Node → Type 0
IsPlain (row u ls) = PlainLeaves u ls

-- another that is a declaration of a type alone
abbrev pub DeclaredLeaves : Row → Leaves → Type 0
DeclaredLeaves rows.ExportType = Two IsText (IsRow IsDescription)
DeclaredLeaves rows.ModuleImport = Three IsText IsText (IsRow IsEntity)
DeclaredLeaves rows.ModuleExport = Two IsText (IsRow IsEntity)
DeclaredLeaves _ = λ ls. ⊥

abbrev pub IsDeclared : Node → Type 0
IsDeclared (row u ls) = DeclaredLeaves u ls

-- another that holds a list
abbrev pub ListedLeaves : Row → Leaves → Type 0
ListedLeaves rows.CoreInstantiate = Two (IsIndex space.CoreModule) (IsList IsCoreArgument)
ListedLeaves rows.CoreBundle = One (IsList (IsNamedItem rows.CoreBundleExport))
ListedLeaves rows.Instantiate = Two (IsIndex space.Component) (IsList (IsNamedItem rows.Argument))
ListedLeaves rows.Bundle = One (IsList (IsNamedItem rows.BundleExport))
ListedLeaves rows.Start = Three (IsIndex space.Func) (IsList IsStartArgument) IsResults
ListedLeaves _ = λ ls. ⊥

abbrev pub IsListed : Node → Type 0
IsListed (row u ls) = ListedLeaves u ls
