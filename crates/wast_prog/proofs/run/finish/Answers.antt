use Rattle.std.proofs.Common.{refl}
use Rattle.wast_prog.specs.Ends.Finishes.{all, failed, no_memory}
use Rattle.wast_prog.specs.Ends.WritesUntil.{all_took, one_failed, one_without_memory}
use Rattle.wast_prog.proofs.run.finish.Goals as goal

pub returns-in-Ok-clause-ends : goal.returns-in-Ok-clause-ends
returns-in-Ok-clause-ends g c = all c.in-Ok.ensures.ok

pub returns-in-Err-Failed-clause-ends : goal.returns-in-Err-Failed-clause-ends
returns-in-Err-Failed-clause-ends g c = failed c.in-Err-Failed.ensures.err ((rw c.in-Err-Failed.field-0-is at c.in-Err-Failed.ensures.cause) refl)

pub returns-in-Err-NoMemory-clause-ends : goal.returns-in-Err-NoMemory-clause-ends
returns-in-Err-NoMemory-clause-ends g c = no_memory c.in-Err-NoMemory.ensures.err

pub returns-in-Ok-clause-writes : goal.returns-in-Ok-clause-writes
returns-in-Ok-clause-writes g c = all_took c.in-Ok.ensures.writes

pub returns-in-Err-Failed-clause-writes : goal.returns-in-Err-Failed-clause-writes
returns-in-Err-Failed-clause-writes g c = one_failed ((rw c.in-Err-Failed.field-0-is at c.in-Err-Failed.ensures.writes))

pub returns-in-Err-NoMemory-clause-writes : goal.returns-in-Err-NoMemory-clause-writes
returns-in-Err-NoMemory-clause-writes g c = one_without_memory ((rw c.in-Err-NoMemory.field-0-is at c.in-Err-NoMemory.ensures.writes))
