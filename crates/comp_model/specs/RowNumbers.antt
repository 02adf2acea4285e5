-- The rows of a component by number: the number of each, the row of a number, and lists of rows (Component Model binary format).
use Rattle.std.specs.Prelude.{◌≡◌, refl, ℕ, zero, suc, ◌==◌, Bool, false, ◌||◌, List, [], ◌∷◌}
use Rattle.comp_model.specs.declared.row.Row.{Row}
use Rattle.comp_model.specs.declared.row.Row.TheVariants as rows

-- a number for each row
abbrev pub row_number : Row → ℕ
row_number rows.CoreModule = 0
row_number rows.CoreInstantiate = 1
row_number rows.CoreBundle = 2
row_number rows.CoreFunctionType = 3
row_number rows.CoreRec = 4
row_number rows.ModuleType = 5
row_number rows.Component = 6
row_number rows.Instantiate = 7
row_number rows.Bundle = 8
row_number rows.AliasExport = 9
row_number rows.AliasCoreExport = 10
row_number rows.AliasOuter = 11
row_number rows.Start = 12
row_number rows.Import = 13
row_number rows.Export = 14
row_number rows.Custom = 15
row_number rows.Producers = 16
row_number rows.Primitive = 17
row_number rows.RecordType = 18
row_number rows.VariantType = 19
row_number rows.ListType = 20
row_number rows.FixedLengthListType = 21
row_number rows.TupleType = 22
row_number rows.FlagsType = 23
row_number rows.EnumType = 24
row_number rows.OptionType = 25
row_number rows.ResultType = 26
row_number rows.OwnType = 27
row_number rows.BorrowType = 28
row_number rows.StreamType = 29
row_number rows.FutureType = 30
row_number rows.FunctionType = 31
row_number rows.ComponentType = 32
row_number rows.InstanceType = 33
row_number rows.ResourceType = 34
row_number rows.Lift = 35
row_number rows.Lower = 36
row_number rows.ResourceNew = 37
row_number rows.ResourceDrop = 38
row_number rows.ResourceRep = 39
row_number rows.TaskCancel = 40
row_number rows.SubtaskCancel = 41
row_number rows.SubtaskDrop = 42
row_number rows.TaskReturn = 43
row_number rows.ContextGet = 44
row_number rows.ContextSet = 45
row_number rows.StreamNew = 46
row_number rows.StreamRead = 47
row_number rows.StreamWrite = 48
row_number rows.StreamCancelRead = 49
row_number rows.StreamCancelWrite = 50
row_number rows.StreamDropReadable = 51
row_number rows.StreamDropWritable = 52
row_number rows.FutureNew = 53
row_number rows.FutureRead = 54
row_number rows.FutureWrite = 55
row_number rows.FutureCancelRead = 56
row_number rows.FutureCancelWrite = 57
row_number rows.FutureDropReadable = 58
row_number rows.FutureDropWritable = 59
row_number rows.ErrorContextNew = 60
row_number rows.ErrorContextDebugMessage = 61
row_number rows.ErrorContextDrop = 62
row_number rows.WaitableSetNew = 63
row_number rows.WaitableSetDrop = 64
row_number rows.WaitableJoin = 65
row_number rows.BackpressureInc = 66
row_number rows.BackpressureDec = 67
row_number rows.ThreadSpawnRef = 68
row_number rows.ThreadSpawnIndirect = 69
row_number rows.ThreadAvailableParallelism = 70
row_number rows.ExportType = 71
row_number rows.ModuleImport = 72
row_number rows.ModuleExport = 73
row_number rows.CoreValueType = 74
row_number rows.NamedType = 75
row_number rows.CaseType = 76
row_number rows.LoneType = 77
row_number rows.LoneName = 78
row_number rows.CoreArgument = 79
row_number rows.CoreBundleExport = 80
row_number rows.Argument = 81
row_number rows.BundleExport = 82
row_number rows.StartArgument = 83
row_number rows.Producer = 84
row_number rows.OptionUtf8 = 85
row_number rows.OptionUtf16 = 86
row_number rows.OptionLatin1Utf16 = 87
row_number rows.OptionMemory = 88
row_number rows.OptionRealloc = 89
row_number rows.OptionPostReturn = 90
row_number rows.OptionAsync = 91
row_number rows.OptionCallback = 92
row_number rows.ModuleDescription = 93
row_number rows.FuncDescription = 94
row_number rows.TypeEq = 95
row_number rows.SubResource = 96
row_number rows.ComponentDescription = 97
row_number rows.InstanceDescription = 98
row_number rows.FuncEntity = 99
row_number rows.TableEntity = 100
row_number rows.MemoryEntity = 101
row_number rows.GlobalEntity = 102
row_number rows.AttributedName = 103
row_number rows.MapType = 104
row_number rows.ValueDescription = 105
row_number rows.OptionGc = 106
row_number rows.OptionCoreType = 107
row_number rows.StreamForward = 108
row_number rows.FutureForward = 109
row_number rows.WaitableSetWait = 110
row_number rows.WaitableSetPoll = 111
row_number rows.ThreadIndex = 112
row_number rows.ThreadNewIndirect = 113
row_number rows.ThreadResumeLater = 114
row_number rows.ThreadSuspend = 115
row_number rows.ThreadYield = 116
row_number rows.ThreadSuspendThenResume = 117
row_number rows.ThreadYieldThenResume = 118
row_number rows.ThreadSuspendThenPromote = 119
row_number rows.ThreadYieldThenPromote = 120
row_number rows.OtherCoreType = 121
row_number rows.OtherEntity = 122

-- the rows in the order of their numbers
abbrev pub all_rows : List Row
all_rows =
    rows.CoreModule
    ∷ rows.CoreInstantiate
    ∷ rows.CoreBundle
    ∷ rows.CoreFunctionType
    ∷ rows.CoreRec
    ∷ rows.ModuleType
    ∷ rows.Component
    ∷ rows.Instantiate
    ∷ rows.Bundle
    ∷ rows.AliasExport
    ∷ rows.AliasCoreExport
    ∷ rows.AliasOuter
    ∷ rows.Start
    ∷ rows.Import
    ∷ rows.Export
    ∷ rows.Custom
    ∷ rows.Producers
    ∷ rows.Primitive
    ∷ rows.RecordType
    ∷ rows.VariantType
    ∷ rows.ListType
    ∷ rows.FixedLengthListType
    ∷ rows.TupleType
    ∷ rows.FlagsType
    ∷ rows.EnumType
    ∷ rows.OptionType
    ∷ rows.ResultType
    ∷ rows.OwnType
    ∷ rows.BorrowType
    ∷ rows.StreamType
    ∷ rows.FutureType
    ∷ rows.FunctionType
    ∷ rows.ComponentType
    ∷ rows.InstanceType
    ∷ rows.ResourceType
    ∷ rows.Lift
    ∷ rows.Lower
    ∷ rows.ResourceNew
    ∷ rows.ResourceDrop
    ∷ rows.ResourceRep
    ∷ rows.TaskCancel
    ∷ rows.SubtaskCancel
    ∷ rows.SubtaskDrop
    ∷ rows.TaskReturn
    ∷ rows.ContextGet
    ∷ rows.ContextSet
    ∷ rows.StreamNew
    ∷ rows.StreamRead
    ∷ rows.StreamWrite
    ∷ rows.StreamCancelRead
    ∷ rows.StreamCancelWrite
    ∷ rows.StreamDropReadable
    ∷ rows.StreamDropWritable
    ∷ rows.FutureNew
    ∷ rows.FutureRead
    ∷ rows.FutureWrite
    ∷ rows.FutureCancelRead
    ∷ rows.FutureCancelWrite
    ∷ rows.FutureDropReadable
    ∷ rows.FutureDropWritable
    ∷ rows.ErrorContextNew
    ∷ rows.ErrorContextDebugMessage
    ∷ rows.ErrorContextDrop
    ∷ rows.WaitableSetNew
    ∷ rows.WaitableSetDrop
    ∷ rows.WaitableJoin
    ∷ rows.BackpressureInc
    ∷ rows.BackpressureDec
    ∷ rows.ThreadSpawnRef
    ∷ rows.ThreadSpawnIndirect
    ∷ rows.ThreadAvailableParallelism
    ∷ rows.ExportType
    ∷ rows.ModuleImport
    ∷ rows.ModuleExport
    ∷ rows.CoreValueType
    ∷ rows.NamedType
    ∷ rows.CaseType
    ∷ rows.LoneType
    ∷ rows.LoneName
    ∷ rows.CoreArgument
    ∷ rows.CoreBundleExport
    ∷ rows.Argument
    ∷ rows.BundleExport
    ∷ rows.StartArgument
    ∷ rows.Producer
    ∷ rows.OptionUtf8
    ∷ rows.OptionUtf16
    ∷ rows.OptionLatin1Utf16
    ∷ rows.OptionMemory
    ∷ rows.OptionRealloc
    ∷ rows.OptionPostReturn
    ∷ rows.OptionAsync
    ∷ rows.OptionCallback
    ∷ rows.ModuleDescription
    ∷ rows.FuncDescription
    ∷ rows.TypeEq
    ∷ rows.SubResource
    ∷ rows.ComponentDescription
    ∷ rows.InstanceDescription
    ∷ rows.FuncEntity
    ∷ rows.TableEntity
    ∷ rows.MemoryEntity
    ∷ rows.GlobalEntity
    ∷ rows.AttributedName
    ∷ rows.MapType
    ∷ rows.ValueDescription
    ∷ rows.OptionGc
    ∷ rows.OptionCoreType
    ∷ rows.StreamForward
    ∷ rows.FutureForward
    ∷ rows.WaitableSetWait
    ∷ rows.WaitableSetPoll
    ∷ rows.ThreadIndex
    ∷ rows.ThreadNewIndirect
    ∷ rows.ThreadResumeLater
    ∷ rows.ThreadSuspend
    ∷ rows.ThreadYield
    ∷ rows.ThreadSuspendThenResume
    ∷ rows.ThreadYieldThenResume
    ∷ rows.ThreadSuspendThenPromote
    ∷ rows.ThreadYieldThenPromote
    ∷ rows.OtherCoreType
    ∷ rows.OtherEntity
    ∷ []

-- the row of a number
abbrev pub row_in : List Row → ℕ → Row
row_in [] n = rows.CoreModule
row_in (t ∷ ts) zero = t
row_in (t ∷ ts) (suc n) = row_in ts n

-- whether two rows are one
abbrev pub same_row : Row → Row → Bool
same_row s t = row_number s == row_number t

-- whether a row is among these
abbrev pub is_row : Row → List Row → Bool
is_row t [] = false
is_row t (u ∷ us) = same_row t u || is_row t us

-- the canonical functions that are written and make core functions: the one list of them, of which the others are computed
abbrev pub canonical_core_rows : List Row
canonical_core_rows =
    rows.Lower ∷ rows.ResourceNew ∷ rows.ResourceDrop ∷ rows.ResourceRep ∷ rows.TaskCancel ∷ rows.SubtaskCancel ∷ rows.TaskReturn ∷ rows.ContextGet ∷ rows.ContextSet ∷ rows.SubtaskDrop
    ∷ rows.StreamNew ∷ rows.StreamRead ∷ rows.StreamWrite ∷ rows.StreamCancelRead ∷ rows.StreamCancelWrite ∷ rows.StreamDropReadable ∷ rows.StreamDropWritable
    ∷ rows.FutureNew ∷ rows.FutureRead ∷ rows.FutureWrite ∷ rows.FutureCancelRead ∷ rows.FutureCancelWrite ∷ rows.FutureDropReadable ∷ rows.FutureDropWritable
    ∷ rows.ErrorContextNew ∷ rows.ErrorContextDebugMessage ∷ rows.ErrorContextDrop ∷ rows.WaitableSetNew ∷ rows.WaitableSetDrop ∷ rows.WaitableJoin ∷ rows.BackpressureInc ∷ rows.BackpressureDec
    ∷ rows.ThreadSpawnRef ∷ rows.ThreadSpawnIndirect ∷ rows.ThreadAvailableParallelism ∷ []

-- all that are written: `Lift` makes a function of the component
abbrev pub canonical_rows : List Row
canonical_rows = rows.Lift ∷ canonical_core_rows

-- those that are read and never written, which make core functions too
abbrev pub unwritten_canonical_rows : List Row
unwritten_canonical_rows =
    rows.StreamForward ∷ rows.FutureForward ∷ rows.WaitableSetWait ∷ rows.WaitableSetPoll ∷ rows.ThreadIndex ∷ rows.ThreadNewIndirect ∷ rows.ThreadResumeLater ∷ rows.ThreadSuspend ∷ rows.ThreadYield
    ∷ rows.ThreadSuspendThenResume ∷ rows.ThreadYieldThenResume ∷ rows.ThreadSuspendThenPromote ∷ rows.ThreadYieldThenPromote ∷ []

pub row_in-number : (t : Row) → row_in all_rows (row_number t) ≡ t
row_in-number rows.CoreModule = refl
row_in-number _ = refl
