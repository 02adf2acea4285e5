-- How a run ends, whatever its outside does.
use Rattle.std.specs.Prelude.{◌≡◌, ◌⊎◌, ℕ, List, [], Result, ⊤}
use Rattle.std.specs.declared.option.Option.{Option}
use Rattle.std.specs.Io.KnownBytes.{Appends}
use Rattle.wast_prog.specs.declared.run.Status.{Status}
use Rattle.wast_prog.specs.declared.run.Status.TheVariants.{Done, Refused, Usage, ReadFault, WriteFault, NoMemory}
use Rattle.byte_streams.specs.declared.outside.SinkError.{SinkError}
use Rattle.byte_streams.specs.declared.outside.SinkError.TheVariants as sink
use Rattle.byte_streams.specs.Outside.{Rose, TakesFront, Reads, ReadsToFault, Writes, WritesToError}
use Rattle.wast_prog.specs.Answer.{RunAnswers, IsWhole}
use Rattle.wast_prog.specs.Command.{IsCommand, AskForInput}

-- what is seen of a source or a sink before a call and after it: the bytes that it has left or has taken, where it tells them, and its count of faults
pub record Change : Type 0 where
  pub old : Option (List ℕ)
  pub new : Option (List ℕ)
  pub before : ℕ
  pub after : ℕ

-- what is seen of a source or a sink that was `old` and is `new`
abbrev pub change : {S : Type 0} → (S → Option (List ℕ)) → (S → ℕ) → S → S → Change
change bytes faults old new = record { old = bytes old; new = bytes new; before = faults old; after = faults new }

-- its count of faults rose, or stands at its last value
abbrev pub HasFailed : Change → Type 0
HasFailed outside = Rose outside.before outside.after

-- a sink took exactly these bytes
abbrev pub Took : Change → List ℕ → Type 0
Took sink bytes = Appends sink.old sink.new bytes

-- a sink took a front of these bytes, and nothing else
abbrev pub TookFront : Change → List ℕ → Type 0
TookFront sink bytes = TakesFront sink.old sink.new bytes

-- the answer to the words and to all that the source held: the status, and the bytes for the output and for the faults
abbrev pub RunAnswersSource : List (List ℕ) → Change → Status → List ℕ → List ℕ → Type 0
RunAnswersSource words source status out err = (whole : List ℕ) × IsWhole source.old whole × RunAnswers words whole status out err

-- the answer has this status, and all its bytes are written
abbrev pub AllWritten : List (List ℕ) → Change → Change → Change → Status → Type 0
AllWritten words source output faults status = (out : List ℕ) × (err : List ℕ) × RunAnswersSource words source status out err × Took output out × Took faults err

-- nothing is written
abbrev pub NothingWritten : Change → Change → Type 0
NothingWritten output faults = Took output [] × Took faults []

-- a front of the answer is written
abbrev pub FrontWritten : List (List ℕ) → Change → Change → Change → Type 0
FrontWritten words source output faults = (status : Status) × (out : List ℕ) × (err : List ℕ) × RunAnswersSource words source status out err × TookFront output out × TookFront faults err

-- the answer is for the output, which failed
abbrev pub OutputFailed : List (List ℕ) → Change → Change → Change → Type 0
OutputFailed words source output faults = (status : Status) × (out : List ℕ) × RunAnswersSource words source status out [] × HasFailed output × TookFront output out × Took faults []

-- the answer is for the faults, which failed
abbrev pub FaultsFailed : List (List ℕ) → Change → Change → Change → Type 0
FaultsFailed words source output faults = (status : Status) × (err : List ℕ) × RunAnswersSource words source status [] err × HasFailed faults × Took output [] × TookFront faults err

-- what each status says of the words, of the source, and of what is written to the output and to the faults
abbrev pub Ends : List (List ℕ) → Change → Change → Change → Status → Type 0
Ends words source output faults Done = AllWritten words source output faults Done
Ends words source output faults Refused = AllWritten words source output faults Refused
Ends words source output faults Usage = AllWritten words source output faults Usage
Ends words source output faults ReadFault = AskForInput words × HasFailed source × NothingWritten output faults
Ends words source output faults WriteFault = OutputFailed words source output faults ⊎ FaultsFailed words source output faults
Ends words source output faults NoMemory = (IsCommand words × NothingWritten output faults) ⊎ FrontWritten words source output faults

-- the reads of a run with this status: none failed, but for the last one of a run that ends by a read fault
abbrev pub ReadsOfRun : {S : Type 0} → (S → Option ℕ → S → Type 0) → S → S → Status → Type 0
ReadsOfRun gives old new Done = Reads gives old new
ReadsOfRun gives old new Refused = Reads gives old new
ReadsOfRun gives old new Usage = Reads gives old new
ReadsOfRun gives old new ReadFault = ReadsToFault gives old new
ReadsOfRun gives old new WriteFault = Reads gives old new
ReadsOfRun gives old new NoMemory = Reads gives old new

-- how bytes were written to a sink: all of them, with the status that is wanted; or a front of them, after a fault of the sink or for want of memory
pub data Finishes (sink : Change) (bytes : List ℕ) (wanted : Status) : Status → Type 0 where
  all : Took sink bytes → Finishes sink bytes wanted wanted
  failed : TookFront sink bytes → HasFailed sink → Finishes sink bytes wanted WriteFault
  no_memory : TookFront sink bytes → Finishes sink bytes wanted NoMemory

-- the writes to the one sink that has something to take: all took bytes, and the status is the one that is wanted; or the last gave an error, which is the status
pub data WritesUntil {S : Type 0} (gives : S → Result ℕ SinkError → S → Type 0) (old new : S) (wanted : Status) : Status → Type 0 where
  all_took : Writes gives old new → WritesUntil gives old new wanted wanted
  one_failed : WritesToError gives old new sink.Failed → WritesUntil gives old new wanted WriteFault
  one_without_memory : WritesToError gives old new sink.NoMemory → WritesUntil gives old new wanted NoMemory

-- the last write of a run gave this error, to one of its sinks, and the other was not called
abbrev pub EndsByWrite : {O E : Type 0} → (O → Result ℕ SinkError → O → Type 0) → (E → Result ℕ SinkError → E → Type 0) → O → O → E → E → SinkError → Type 0
EndsByWrite outputs faults old new before after error = (WritesToError outputs old new error × (after ≡ before)) ⊎ ((new ≡ old) × WritesToError faults before after error)

-- the writes of a run with this status, to the output and to the faults: none gave an error, but for the last one of a run that ends by that error; a run without memory of its own wrote nothing
abbrev pub WritesOfRun : {O E : Type 0} → (O → Result ℕ SinkError → O → Type 0) → (E → Result ℕ SinkError → E → Type 0) → O → O → E → E → Status → Type 0
WritesOfRun outputs faults old new before after Done = Writes outputs old new × (after ≡ before)
WritesOfRun outputs faults old new before after Refused = (new ≡ old) × Writes faults before after
WritesOfRun outputs faults old new before after Usage = (new ≡ old) × Writes faults before after
WritesOfRun outputs faults old new before after ReadFault = (new ≡ old) × (after ≡ before)
WritesOfRun outputs faults old new before after WriteFault = EndsByWrite outputs faults old new before after sink.Failed
WritesOfRun outputs faults old new before after NoMemory = ((new ≡ old) × (after ≡ before)) ⊎ EndsByWrite outputs faults old new before after sink.NoMemory

-- the output is as it was, after a run with this status
abbrev pub LeavesOutput : Status → Type 0
LeavesOutput Done = ⊥
LeavesOutput Refused = ⊤
LeavesOutput Usage = ⊤
LeavesOutput ReadFault = ⊤
LeavesOutput WriteFault = ⊥
LeavesOutput NoMemory = ⊥

-- the faults are as they were, after a run with this status
abbrev pub LeavesFaults : Status → Type 0
LeavesFaults Done = ⊤
LeavesFaults Refused = ⊥
LeavesFaults Usage = ⊥
LeavesFaults ReadFault = ⊤
LeavesFaults WriteFault = ⊥
LeavesFaults NoMemory = ⊥
