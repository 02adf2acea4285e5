-- How a run ends, from how its parts end.
use Rattle.std.proofs.Common.{◌≡◌, ℕ, ◌+◌, ◌<◌, ◌≤◌, ◌⊎◌, inl, inr, List, [], ◌++◌, length, None, Some, Result, String as Str, Vec, Global, string_bytes, refl, ap, subst, ◌∙◌, length-append, arith}
use Rattle.std.proofs.lemmas.List.{append-nil}
use Rattle.std.specs.declared.option.Option.{Option}
use Rattle.wast_prog.specs.declared.reply.Reply.{Reply}
use Rattle.wast_prog.specs.declared.reply.Reply.TheVariants.{Output, Faults}
use Rattle.wast_prog.specs.declared.command.Command.{Command}
use Rattle.wast_prog.specs.declared.run.Status.{Status}
use Rattle.wast_prog.specs.declared.run.Status.TheVariants.{Done, Refused, Usage, NoMemory}
use Rattle.wast_component.specs.Answer.{text_limit}
use Rattle.byte_streams.specs.declared.outside.SinkError.{SinkError}
use Rattle.byte_streams.specs.Outside.{TakesFront, ReadsAll, Reads, Writes}
use Rattle.wast_prog.specs.Answer.{IsWhole, RepliesAfter, usage_line}
use Rattle.wast_prog.specs.Command.{command, IsCommand}
use Rattle.wast_prog.specs.Answer.RunAnswers.{asked, usage}
use Rattle.wast_prog.specs.Ends.{Change, RunAnswersSource, AllWritten, Finishes, Ends, ReadsOfRun, WritesUntil, WritesOfRun}
use Rattle.wast_prog.specs.Ends.WritesUntil.{all_took, one_failed, one_without_memory}
use Rattle.wast_prog.specs.Ends.Finishes.{all, failed, no_memory}
use Rattle.byte_streams.proofs.Transfers.{appends_nothing}
use Rattle.wast_prog.proofs.Words.{command_or_not}

-- a sink that is as it was has taken no front of anything but nothing
takes_nothing : (a : Option (List ℕ)) → TakesFront a a []
takes_nothing a = (0, omega arith, appends_nothing a)

-- what was read is the whole, if it isn't too much
pub reads_whole : (a b : Option (List ℕ)) (bytes : List ℕ) → ReadsAll a b bytes → length bytes ≤ text_limit → IsWhole a bytes
reads_whole None b bytes h small = tt
reads_whole (Some xs) None bytes h small = absurd h.consumes
reads_whole (Some xs) (Some ys) bytes h small = h.consumes ∙ ap (λ z. bytes ++ z) (h.end (omega arith)) ∙ append-nil bytes

-- what was read is the front of a whole that is too much
pub reads_much : (a b : Option (List ℕ)) (bytes : List ℕ) → ReadsAll a b bytes → text_limit < length bytes → (whole : List ℕ) × IsWhole a whole × (text_limit < length whole)
reads_much None b bytes h much = (bytes, tt, much)
reads_much (Some xs) None bytes h much = absurd h.consumes
reads_much (Some xs) (Some ys) bytes h much = (xs, refl, (let e : length xs ≡ length bytes + length ys = ap length h.consumes ∙ length-append bytes ys in omega arith))

-- some whole input
pub some_whole : (a : Option (List ℕ)) → (whole : List ℕ) × IsWhole a whole
some_whole None = ([], tt)
some_whole (Some xs) = (xs, refl)

-- a reply to the output is the answer
pub reply_output : (words : List (List ℕ)) (source : Change) (reply : Reply) (out : Vec ℕ Global) (what : Command) → command words ≡ Some what → RepliesAfter source.old what reply → reply ≡ Output out → RunAnswersSource words source Done out.items []
reply_output words source reply out what w h is =
    let r : RepliesAfter source.old what (Output out) = subst (RepliesAfter source.old what) is h in
    (r.0, r.1, asked what Done out.items [] w r.2)

-- a reply to the faults is the answer
pub reply_faults : (words : List (List ℕ)) (source : Change) (reply : Reply) (line : Str Global) (what : Command) → command words ≡ Some what → RepliesAfter source.old what reply → reply ≡ Faults line → RunAnswersSource words source Refused [] (string_bytes line)
reply_faults words source reply line what w h is =
    let r : RepliesAfter source.old what (Faults line) = subst (RepliesAfter source.old what) is h in
    (r.0, r.1, asked what Refused [] (string_bytes line) w r.2)

-- the bytes that were written are these
finishes_with : (sink : Change) (given bytes : List ℕ) (status end : Status) → given ≡ bytes → Finishes sink given status end → Finishes sink bytes status end
finishes_with sink given bytes status end same h = subst (λ b. Finishes sink b status end) same h

output_ends : (words : List (List ℕ)) (source output : Change) (err : Option (List ℕ)) (count : ℕ) (status end : Status) (bytes : List ℕ) → RunAnswersSource words source status bytes [] → Finishes output bytes status end → let faults : Change = record { old = err; new = err; before = count; after = count } in (AllWritten words source output faults status → Ends words source output faults status) → Ends words source output faults end
output_ends words source output err count status end bytes a (all h) row = row (bytes, [], a, h, appends_nothing err)
output_ends words source output err count status end bytes a (failed h rose) row = inl (status, bytes, a, rose, h, appends_nothing err)
output_ends words source output err count status end bytes a (no_memory h) row = inr (status, bytes, [], a, h, takes_nothing err)

faults_end : (words : List (List ℕ)) (source faults : Change) (out : Option (List ℕ)) (count : ℕ) (status end : Status) (bytes : List ℕ) → RunAnswersSource words source status [] bytes → Finishes faults bytes status end → let output : Change = record { old = out; new = out; before = count; after = count } in (AllWritten words source output faults status → Ends words source output faults status) → Ends words source output faults end
faults_end words source faults out count status end bytes a (all h) row = row ([], bytes, a, appends_nothing out, h)
faults_end words source faults out count status end bytes a (failed h rose) row = inr (status, bytes, a, rose, appends_nothing out, h)
faults_end words source faults out count status end bytes a (no_memory h) row = inr (status, [], bytes, a, takes_nothing out, h)

-- the answer is for the output, these bytes were written to it, and the faults are as they were
pub ends_by_output : (words : List (List ℕ)) (source output : Change) (err : Option (List ℕ)) (count : ℕ) (status end : Status) (given bytes : List ℕ) → given ≡ bytes → RunAnswersSource words source status bytes [] → Finishes output given status end → let faults : Change = record { old = err; new = err; before = count; after = count } in (AllWritten words source output faults status → Ends words source output faults status) → Ends words source output faults end
ends_by_output words source output err count status end given bytes same a h row = output_ends words source output err count status end bytes a (finishes_with output given bytes status end same h) row

-- the answer is for the faults, these bytes were written to them, and the output is as it was
pub ends_by_faults : (words : List (List ℕ)) (source faults : Change) (out : Option (List ℕ)) (count : ℕ) (status end : Status) (given bytes : List ℕ) → given ≡ bytes → RunAnswersSource words source status [] bytes → Finishes faults given status end → let output : Change = record { old = out; new = out; before = count; after = count } in (AllWritten words source output faults status → Ends words source output faults status) → Ends words source output faults end
ends_by_faults words source faults out count status end given bytes same a h row = faults_end words source faults out count status end bytes a (finishes_with faults given bytes status end same h) row

-- the reads of a run that ends by what it wrote
pub reads_then : {S : Type 0} {old new : S} (gives : S → Option ℕ → S → Type 0) (sink : Change) (bytes : List ℕ) (wanted end : Status) → Reads gives old new → ReadsOfRun gives old new wanted → Finishes sink bytes wanted end → ReadsOfRun gives old new end
reads_then gives sink bytes wanted end reads row (all took) = row
reads_then gives sink bytes wanted end reads row (failed front rose) = reads
reads_then gives sink bytes wanted end reads row (no_memory front) = reads

-- the writes of a run that wrote to its output alone
pub writes_by_output : {O E : Type 0} {old new : O} {end : Status} (outputs : O → Result ℕ SinkError → O → Type 0) (faults : E → Result ℕ SinkError → E → Type 0) (kept : E) → WritesUntil outputs old new Done end → WritesOfRun outputs faults old new kept kept end
writes_by_output outputs faults kept (all_took w) = (w, refl)
writes_by_output outputs faults kept (one_failed w) = inl (w, refl)
writes_by_output outputs faults kept (one_without_memory w) = inr (inl (w, refl))

-- of one that wrote to its faults alone
pub writes_by_faults : {O E : Type 0} {old new : E} {end : Status} (outputs : O → Result ℕ SinkError → O → Type 0) (faults : E → Result ℕ SinkError → E → Type 0) (kept : O) (wanted : Status) → (Writes faults old new → WritesOfRun outputs faults kept kept old new wanted) → WritesUntil faults old new wanted end → WritesOfRun outputs faults kept kept old new end
writes_by_faults outputs faults kept wanted row (all_took w) = row w
writes_by_faults outputs faults kept wanted row (one_failed w) = inr (refl, w)
writes_by_faults outputs faults kept wanted row (one_without_memory w) = inr (inr (refl, w))

without_memory : (words : List (List ℕ)) (source : Change) (out err : Option (List ℕ)) (count other : ℕ) → IsCommand words ⊎ (command words ≡ None) → Ends words source (record { old = out; new = out; before = count; after = count }) (record { old = err; new = err; before = other; after = other }) NoMemory
without_memory words source out err count other (inl w) = inl (w, (appends_nothing out, appends_nothing err))
without_memory words source out err count other (inr n) =
    let whole = some_whole source.old in
    inr (Usage, [], usage_line, (whole.0, whole.1, usage n), takes_nothing out, (0, omega arith, appends_nothing err))

-- a run for which there was no memory at all
pub ends_without_memory : (words : List (List ℕ)) (source : Change) (out err : Option (List ℕ)) (count other : ℕ) → Ends words source (record { old = out; new = out; before = count; after = count }) (record { old = err; new = err; before = other; after = other }) NoMemory
ends_without_memory words source out err count other = without_memory words source out err count other (command_or_not words)
