use Rattle.std.proofs.Common.{inr, ap, sym, subst, ◌∙◌, ◌^◌}
use Rattle.plan_lines.specs.Shown.{word_of, rest_of}
use Rattle.comp_compose.proofs.Passing as p
use Rattle.comp_compose.proofs.Passing.{Passing}
use Rattle.comp_compose.proofs.Said.{spans_on}
use Rattle.comp_compose.proofs.arguments.pass_all.Goals as goal

pub returns-in-Err : goal.returns-in-Err
returns-in-Err c =
    λ ls xs s h.
    inr (p.stops c.args.names.now c.args.arguments c.loop-left.left c.cut.result.1 c.loop-left.passed.items (word_of c.cut.result.0) c.in-Err.refusal c.loop-left.invariant.passing
    (ap (rest_of 32) c.in-Some.is ∙ c.cut.ensures.pieces) c.in-Err.ensures ls xs s h)

pub loop-left-preserved : goal.loop-left-preserved
loop-left-preserved c = record {
  spans = spans_on c.loop-left.left c.cut.result.1 c.in-Some.words (2 ^ 64) c.in-Some.is c.loop-left.invariant.spans c.cut.ensures.rest;
  passing = subst (Passing c.args.names.now c.args.arguments c.cut.result.1) (sym c.in-Ok-push.ensures.items)
      (p.goes_on c.args.names.now c.args.arguments c.loop-left.left c.cut.result.1 c.loop-left.passed.items (word_of c.cut.result.0) c.in-Ok.argument c.loop-left.invariant.passing
      (ap (rest_of 32) c.in-Some.is ∙ c.cut.ensures.pieces) c.in-Ok.ensures);
}

pub returns : goal.returns
returns c = λ ls xs s h. p.ended c.args.names.now c.args.arguments c.loop-left.left c.loop-left.passed.items c.loop-left.invariant.passing c.in_default.is ls xs s h
