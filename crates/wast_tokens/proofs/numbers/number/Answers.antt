use Rattle.std.proofs.Common.{◌∙◌}
use Rattle.wast_tokens.proofs.Digits.{large_product, large_sum, none_where, some_where, behind_all}
use Rattle.wast_tokens.proofs.numbers.number.Goals as goal

pub returns-in_default : goal.returns-in_default
returns-in_default c = record {
  number = none_where _ (large_product c.args.radix c.loop-b.number _ _ _ c.requires.radix c.loop-b-test.true c.if-b-ne95.true c.loop-b.invariant.1 c.in_default.ensures);
}

pub returns-in_default-checked_add : goal.returns-in_default-checked_add
returns-in_default-checked_add c = record {
  number = none_where _ (large_sum c.args.radix c.loop-b.number c.in-Some.product c.digit_value.result _ _ _ c.requires.radix c.loop-b-test.true c.if-b-ne95.true c.in-Some.ensures.1 c.digit_value.ensures.value c.loop-b.invariant.1 c.in_default-checked_add.ensures);
}

pub returns : goal.returns
returns c = record {
  number = some_where _ c.loop-b.number (c.loop-b.invariant.1 ∙ behind_all c.args.radix c.loop-b.number c.args.bytes.now c.loop-b.b-index c.loop-b-test.false) c.loop-b.invariant.0;
}
