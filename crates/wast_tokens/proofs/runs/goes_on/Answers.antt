use Rattle.std.proofs.Common.{sym}
use Rattle.wast_tokens.proofs.Parts.{run_within}
use Rattle.wast_tokens.proofs.runs.goes_on.Goals as goal

pub returns-in-Run-clause-within : goal.returns-in-Run-clause-within
returns-in-Run-clause-within c = run_within c.args.text.now c.args.at (sym c.in-Run.ensures.beginning)
