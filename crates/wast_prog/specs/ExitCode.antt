-- What the program exits with.
use Rattle.std.specs.Prelude.{◌≡◌, ℕ, List}
use Rattle.std.specs.declared.io.ErrorKind.{ErrorKind}
use Rattle.std.specs.declared.io.ErrorKind.TheVariants.{OutOfMemory}
use Rattle.wast_prog.specs.declared.run.Status.{Status}
use Rattle.wast_prog.specs.declared.run.Status.TheVariants.{Done, Refused, Usage, ReadFault, WriteFault, NoMemory}
use Rattle.wast_prog.specs.Ends.{Change, Ends}

-- the exit code of a status
abbrev pub exit_code_of : Status → ℕ
exit_code_of Done = 0
exit_code_of Refused = 1
exit_code_of Usage = 2
exit_code_of ReadFault = 3
exit_code_of WriteFault = 4
exit_code_of NoMemory = 5

-- the status of a program whose arguments could not be had, by the kind of the error: the only other one is that an argument isn't UTF-8
abbrev pub status_without : ErrorKind → Status
status_without OutOfMemory = NoMemory
status_without kind = Usage

-- the exit code is that of a status, and a run of these words ends with that status
abbrev pub Exits : List (List ℕ) → Change → Change → Change → ℕ → Type 0
Exits words source output faults code = (status : Status) × (code ≡ exit_code_of status) × Ends words source output faults status
