use Rattle.std.proofs.Common.{sym, ◌∙◌}
use Rattle.sample_text.proofs.Numerals.{count_said, count_spelled, count_unsaid}
use Rattle.sample_text.proofs.count.count_of.Goals as goal

pub returns-then-count-le-MAX_COUNT-clause-value : goal.returns-then-count-le-MAX_COUNT-clause-value
returns-then-count-le-MAX_COUNT-clause-value c =
    count_said c.args.word.now c.in-Ok.count c.parse.result (sym c.begins_otherwise.ensures ∙ c.if-begins_otherwise.false) c.parse.ensures.value.0 c.in-Ok.is c.if-count-le-MAX_COUNT.true

pub returns-then-count-le-MAX_COUNT-clause-spelled : goal.returns-then-count-le-MAX_COUNT-clause-spelled
returns-then-count-le-MAX_COUNT-clause-spelled c =
    count_spelled c.args.word.now c.in-Ok.count c.parse.result (sym c.begins_otherwise.ensures ∙ c.if-begins_otherwise.false) c.parse.ensures.value.0 c.in-Ok.is

pub returns-in-Err-clause-value : goal.returns-in-Err-clause-value
returns-in-Err-clause-value c =
    count_unsaid c.args.word.now c.in-Err.field-0 c.parse.result (sym c.begins_otherwise.ensures ∙ c.if-begins_otherwise.false) c.parse.ensures.value.0 c.in-Err.is
