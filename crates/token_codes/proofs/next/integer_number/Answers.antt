use Rattle.std.proofs.Common.{ap, ◌∙◌}
use Rattle.wast_grammar.specs.Classes.{integer}
use Rattle.wast_tokens.specs.Values.{is_numeral}
use Rattle.token_codes.specs.Numbers.{number}
use Rattle.token_codes.proofs.Others.{integer_some, integer_none}
use Rattle.token_codes.proofs.next.integer_number.Goals as goal

pub returns-in-Some : goal.returns-in-Some
returns-in-Some c = integer_some (is_numeral c.as_bytes.result.now) _ _ c.in-Some.ensures.number ∙ ap (λ x. number (integer (is_numeral x))) c.as_bytes.ensures.value

pub returns-in-None : goal.returns-in-None
returns-in-None c = integer_none (is_numeral c.as_bytes.result.now) _ c.in-None.ensures.number ∙ ap (λ x. number (integer (is_numeral x))) c.as_bytes.ensures.value
