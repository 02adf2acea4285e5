use Rattle.std.proofs.Common.{◌-◌, take, drop, length, ap, ◌∙◌}
use Rattle.wast_tokens.proofs.Plain.{plain_string}
use Rattle.wast_tokens.proofs.values.plain_string.Goals as goal

pub returns-clause-value : goal.returns-clause-value
returns-clause-value c e = ap (λ s. take (length c.args.string.now - 1 - 1) (drop 1 s)) c.as_bytes.ensures.value ∙ plain_string c.args.string.now e
