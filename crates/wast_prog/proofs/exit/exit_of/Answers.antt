use Rattle.wast_prog.proofs.exit.exit_of.Goals as goal

pub returns-in-Ok-clause-code : goal.returns-in-Ok-clause-code
returns-in-Ok-clause-code g c = rw c.in-Ok.is (c.status_of.result, c.exit_code_of.ensures, c.status_of.ensures)
