use Rattle.std.proofs.Common.{refl}
use Rattle.tree_print.proofs.word.spelling.Goals as goal

pub returns-in-Alias : goal.returns-in-Alias
returns-in-Alias c = rw c.in-Alias.is refl

pub returns-in-Async : goal.returns-in-Async
returns-in-Async c = rw c.in-Async.is refl

pub returns-in-Borrow : goal.returns-in-Borrow
returns-in-Borrow c = rw c.in-Borrow.is refl

pub returns-in-Callback : goal.returns-in-Callback
returns-in-Callback c = rw c.in-Callback.is refl

pub returns-in-Canon : goal.returns-in-Canon
returns-in-Canon c = rw c.in-Canon.is refl

pub returns-in-Case : goal.returns-in-Case
returns-in-Case c = rw c.in-Case.is refl

pub returns-in-Component : goal.returns-in-Component
returns-in-Component c = rw c.in-Component.is refl

pub returns-in-Core : goal.returns-in-Core
returns-in-Core c = rw c.in-Core.is refl

pub returns-in-Dtor : goal.returns-in-Dtor
returns-in-Dtor c = rw c.in-Dtor.is refl

pub returns-in-Enum : goal.returns-in-Enum
returns-in-Enum c = rw c.in-Enum.is refl

pub returns-in-Eq : goal.returns-in-Eq
returns-in-Eq c = rw c.in-Eq.is refl

pub returns-in-Error : goal.returns-in-Error
returns-in-Error c = rw c.in-Error.is refl

pub returns-in-Export : goal.returns-in-Export
returns-in-Export c = rw c.in-Export.is refl

pub returns-in-Field : goal.returns-in-Field
returns-in-Field c = rw c.in-Field.is refl

pub returns-in-Flags : goal.returns-in-Flags
returns-in-Flags c = rw c.in-Flags.is refl

pub returns-in-Func : goal.returns-in-Func
returns-in-Func c = rw c.in-Func.is refl

pub returns-in-Future : goal.returns-in-Future
returns-in-Future c = rw c.in-Future.is refl

pub returns-in-Global : goal.returns-in-Global
returns-in-Global c = rw c.in-Global.is refl

pub returns-in-Import : goal.returns-in-Import
returns-in-Import c = rw c.in-Import.is refl

pub returns-in-Instance : goal.returns-in-Instance
returns-in-Instance c = rw c.in-Instance.is refl

pub returns-in-Instantiate : goal.returns-in-Instantiate
returns-in-Instantiate c = rw c.in-Instantiate.is refl

pub returns-in-Lift : goal.returns-in-Lift
returns-in-Lift c = rw c.in-Lift.is refl

pub returns-in-List : goal.returns-in-List
returns-in-List c = rw c.in-List.is refl

pub returns-in-Lower : goal.returns-in-Lower
returns-in-Lower c = rw c.in-Lower.is refl

pub returns-in-Memory : goal.returns-in-Memory
returns-in-Memory c = rw c.in-Memory.is refl

pub returns-in-Module : goal.returns-in-Module
returns-in-Module c = rw c.in-Module.is refl

pub returns-in-Mut : goal.returns-in-Mut
returns-in-Mut c = rw c.in-Mut.is refl

pub returns-in-Option : goal.returns-in-Option
returns-in-Option c = rw c.in-Option.is refl

pub returns-in-Outer : goal.returns-in-Outer
returns-in-Outer c = rw c.in-Outer.is refl

pub returns-in-Own : goal.returns-in-Own
returns-in-Own c = rw c.in-Own.is refl

pub returns-in-Param : goal.returns-in-Param
returns-in-Param c = rw c.in-Param.is refl

pub returns-in-PostReturn : goal.returns-in-PostReturn
returns-in-PostReturn c = rw c.in-PostReturn.is refl

pub returns-in-Realloc : goal.returns-in-Realloc
returns-in-Realloc c = rw c.in-Realloc.is refl

pub returns-in-Rec : goal.returns-in-Rec
returns-in-Rec c = rw c.in-Rec.is refl

pub returns-in-Record : goal.returns-in-Record
returns-in-Record c = rw c.in-Record.is refl

pub returns-in-Rep : goal.returns-in-Rep
returns-in-Rep c = rw c.in-Rep.is refl

pub returns-in-Resource : goal.returns-in-Resource
returns-in-Resource c = rw c.in-Resource.is refl

pub returns-in-Result : goal.returns-in-Result
returns-in-Result c = rw c.in-Result.is refl

pub returns-in-Start : goal.returns-in-Start
returns-in-Start c = rw c.in-Start.is refl

pub returns-in-Stream : goal.returns-in-Stream
returns-in-Stream c = rw c.in-Stream.is refl

pub returns-in-Sub : goal.returns-in-Sub
returns-in-Sub c = rw c.in-Sub.is refl

pub returns-in-Table : goal.returns-in-Table
returns-in-Table c = rw c.in-Table.is refl

pub returns-in-Tag : goal.returns-in-Tag
returns-in-Tag c = rw c.in-Tag.is refl

pub returns-in-Tuple : goal.returns-in-Tuple
returns-in-Tuple c = rw c.in-Tuple.is refl

pub returns-in-Ty : goal.returns-in-Ty
returns-in-Ty c = rw c.in-Ty.is refl

pub returns-in-Value : goal.returns-in-Value
returns-in-Value c = rw c.in-Value.is refl

pub returns-in-Variant : goal.returns-in-Variant
returns-in-Variant c = rw c.in-Variant.is refl

pub returns-in-With : goal.returns-in-With
returns-in-With c = rw c.in-With.is refl

pub returns-in-EncodingUtf8 : goal.returns-in-EncodingUtf8
returns-in-EncodingUtf8 c = rw c.in-EncodingUtf8.is refl

pub returns-in-EncodingUtf16 : goal.returns-in-EncodingUtf16
returns-in-EncodingUtf16 c = rw c.in-EncodingUtf16.is refl

pub returns-in-EncodingLatin1Utf16 : goal.returns-in-EncodingLatin1Utf16
returns-in-EncodingLatin1Utf16 c = rw c.in-EncodingLatin1Utf16.is refl

pub returns-in-ResourceNew : goal.returns-in-ResourceNew
returns-in-ResourceNew c = rw c.in-ResourceNew.is refl

pub returns-in-ResourceDrop : goal.returns-in-ResourceDrop
returns-in-ResourceDrop c = rw c.in-ResourceDrop.is refl

pub returns-in-ResourceRep : goal.returns-in-ResourceRep
returns-in-ResourceRep c = rw c.in-ResourceRep.is refl

pub returns-in-TaskCancel : goal.returns-in-TaskCancel
returns-in-TaskCancel c = rw c.in-TaskCancel.is refl

pub returns-in-TaskReturn : goal.returns-in-TaskReturn
returns-in-TaskReturn c = rw c.in-TaskReturn.is refl

pub returns-in-SubtaskCancel : goal.returns-in-SubtaskCancel
returns-in-SubtaskCancel c = rw c.in-SubtaskCancel.is refl

pub returns-in-SubtaskDrop : goal.returns-in-SubtaskDrop
returns-in-SubtaskDrop c = rw c.in-SubtaskDrop.is refl

pub returns-in-ContextGet : goal.returns-in-ContextGet
returns-in-ContextGet c = rw c.in-ContextGet.is refl

pub returns-in-ContextSet : goal.returns-in-ContextSet
returns-in-ContextSet c = rw c.in-ContextSet.is refl

pub returns-in-StreamNew : goal.returns-in-StreamNew
returns-in-StreamNew c = rw c.in-StreamNew.is refl

pub returns-in-StreamRead : goal.returns-in-StreamRead
returns-in-StreamRead c = rw c.in-StreamRead.is refl

pub returns-in-StreamWrite : goal.returns-in-StreamWrite
returns-in-StreamWrite c = rw c.in-StreamWrite.is refl

pub returns-in-StreamCancelRead : goal.returns-in-StreamCancelRead
returns-in-StreamCancelRead c = rw c.in-StreamCancelRead.is refl

pub returns-in-StreamCancelWrite : goal.returns-in-StreamCancelWrite
returns-in-StreamCancelWrite c = rw c.in-StreamCancelWrite.is refl

pub returns-in-StreamDropReadable : goal.returns-in-StreamDropReadable
returns-in-StreamDropReadable c = rw c.in-StreamDropReadable.is refl

pub returns-in-StreamDropWritable : goal.returns-in-StreamDropWritable
returns-in-StreamDropWritable c = rw c.in-StreamDropWritable.is refl

pub returns-in-FutureNew : goal.returns-in-FutureNew
returns-in-FutureNew c = rw c.in-FutureNew.is refl

pub returns-in-FutureRead : goal.returns-in-FutureRead
returns-in-FutureRead c = rw c.in-FutureRead.is refl

pub returns-in-FutureWrite : goal.returns-in-FutureWrite
returns-in-FutureWrite c = rw c.in-FutureWrite.is refl

pub returns-in-FutureCancelRead : goal.returns-in-FutureCancelRead
returns-in-FutureCancelRead c = rw c.in-FutureCancelRead.is refl

pub returns-in-FutureCancelWrite : goal.returns-in-FutureCancelWrite
returns-in-FutureCancelWrite c = rw c.in-FutureCancelWrite.is refl

pub returns-in-FutureDropReadable : goal.returns-in-FutureDropReadable
returns-in-FutureDropReadable c = rw c.in-FutureDropReadable.is refl

pub returns-in-FutureDropWritable : goal.returns-in-FutureDropWritable
returns-in-FutureDropWritable c = rw c.in-FutureDropWritable.is refl

pub returns-in-ErrorContextNew : goal.returns-in-ErrorContextNew
returns-in-ErrorContextNew c = rw c.in-ErrorContextNew.is refl

pub returns-in-ErrorContextDebugMessage : goal.returns-in-ErrorContextDebugMessage
returns-in-ErrorContextDebugMessage c = rw c.in-ErrorContextDebugMessage.is refl

pub returns-in-ErrorContextDrop : goal.returns-in-ErrorContextDrop
returns-in-ErrorContextDrop c = rw c.in-ErrorContextDrop.is refl

pub returns-in-WaitableSetNew : goal.returns-in-WaitableSetNew
returns-in-WaitableSetNew c = rw c.in-WaitableSetNew.is refl

pub returns-in-WaitableSetDrop : goal.returns-in-WaitableSetDrop
returns-in-WaitableSetDrop c = rw c.in-WaitableSetDrop.is refl

pub returns-in-WaitableJoin : goal.returns-in-WaitableJoin
returns-in-WaitableJoin c = rw c.in-WaitableJoin.is refl

pub returns-in-BackpressureInc : goal.returns-in-BackpressureInc
returns-in-BackpressureInc c = rw c.in-BackpressureInc.is refl

pub returns-in-BackpressureDec : goal.returns-in-BackpressureDec
returns-in-BackpressureDec c = rw c.in-BackpressureDec.is refl

pub returns-in-ThreadSpawnRef : goal.returns-in-ThreadSpawnRef
returns-in-ThreadSpawnRef c = rw c.in-ThreadSpawnRef.is refl

pub returns-in-ThreadSpawnIndirect : goal.returns-in-ThreadSpawnIndirect
returns-in-ThreadSpawnIndirect c = rw c.in-ThreadSpawnIndirect.is refl

pub returns-in-ThreadAvailableParallelism : goal.returns-in-ThreadAvailableParallelism
returns-in-ThreadAvailableParallelism c = rw c.in-ThreadAvailableParallelism.is refl

pub returns-in-Bool : goal.returns-in-Bool
returns-in-Bool c = rw c.in-Bool.is refl

pub returns-in-S8 : goal.returns-in-S8
returns-in-S8 c = rw c.in-S8.is refl

pub returns-in-U8 : goal.returns-in-U8
returns-in-U8 c = rw c.in-U8.is refl

pub returns-in-S16 : goal.returns-in-S16
returns-in-S16 c = rw c.in-S16.is refl

pub returns-in-U16 : goal.returns-in-U16
returns-in-U16 c = rw c.in-U16.is refl

pub returns-in-S32 : goal.returns-in-S32
returns-in-S32 c = rw c.in-S32.is refl

pub returns-in-U32 : goal.returns-in-U32
returns-in-U32 c = rw c.in-U32.is refl

pub returns-in-S64 : goal.returns-in-S64
returns-in-S64 c = rw c.in-S64.is refl

pub returns-in-U64 : goal.returns-in-U64
returns-in-U64 c = rw c.in-U64.is refl

pub returns-in-F32 : goal.returns-in-F32
returns-in-F32 c = rw c.in-F32.is refl

pub returns-in-F64 : goal.returns-in-F64
returns-in-F64 c = rw c.in-F64.is refl

pub returns-in-Char : goal.returns-in-Char
returns-in-Char c = rw c.in-Char.is refl

pub returns-in-Str : goal.returns-in-Str
returns-in-Str c = rw c.in-Str.is refl

pub returns-in-ErrorContext : goal.returns-in-ErrorContext
returns-in-ErrorContext c = rw c.in-ErrorContext.is refl

pub returns-in-I32 : goal.returns-in-I32
returns-in-I32 c = rw c.in-I32.is refl

pub returns-in-I64 : goal.returns-in-I64
returns-in-I64 c = rw c.in-I64.is refl

pub returns-in-V128 : goal.returns-in-V128
returns-in-V128 c = rw c.in-V128.is refl

pub returns-in-FuncRef : goal.returns-in-FuncRef
returns-in-FuncRef c = rw c.in-FuncRef.is refl

pub returns-in-ExternRef : goal.returns-in-ExternRef
returns-in-ExternRef c = rw c.in-ExternRef.is refl

pub returns-in-Extern : goal.returns-in-Extern
returns-in-Extern c = rw c.in-Extern.is refl

pub returns-in-Ref : goal.returns-in-Ref
returns-in-Ref c = rw c.in-Ref.is refl

pub returns-in-Null : goal.returns-in-Null
returns-in-Null c = rw c.in-Null.is refl
