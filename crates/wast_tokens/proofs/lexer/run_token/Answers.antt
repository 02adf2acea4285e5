use Rattle.std.proofs.Common.{arith, refl, sym, subst}
use Rattle.wast_tokens.specs.Runs.{IsOfKind}
use Rattle.wast_tokens.specs.Steps.{IsStop}
use Rattle.wast_tokens.specs.Tiling.IsFault.{wrong_run}
use Rattle.wast_tokens.proofs.Parts.{run_more}
use Rattle.wast_tokens.proofs.Tilings.{stopped_run}
use Rattle.wast_tokens.proofs.lexer.run_token.Goals as goal

pub token-requires-clause-small : goal.token-requires-clause-small
token-requires-clause-small c = let le = run_more _ _ _ c.in-Ok.ensures.run.0 in omega (arith, le, c.requires.small)

pub returns-in-Err : goal.returns-in-Err
returns-in-Err c = record { step = stopped_run _ _ _ c.requires.begins c.in-Err.ensures.run }

pub returns-in-Err-kind : goal.returns-in-Err-kind
returns-in-Err-kind c =
    let kind = subst (IsOfKind c.args.text.now c.args.at c.in-Ok.found.end) c.in-Err-kind.is c.in-Ok.ensures.run.1 in
    record { step = subst (IsStop c.args.text.now c.args.at) (sym c.stop.ensures.stop) (wrong_run _ c.requires.begins c.in-Ok.ensures.run.0 kind refl) }
