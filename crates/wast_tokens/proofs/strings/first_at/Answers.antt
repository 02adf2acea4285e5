use Rattle.std.proofs.Common.{sym, ap, ◌∙◌}
use Rattle.wast_tokens.specs.Strings.{first_of}
use Rattle.wast_tokens.proofs.Quotes.{escape_character}
use Rattle.wast_tokens.proofs.strings.first_at.Goals as goal

pub returns-in-Some : goal.returns-in-Some
returns-in-Some c = record { first = ap (first_of _) (c.in-Some.ensures.escape ∙ sym (escape_character _ _ c.if-b-eq92.true)) }
