use Rattle.std.proofs.Common.{◌∙◌, sym, arith, true, false}
use Rattle.text_table.proofs.Testing.{among_from}
use Rattle.text_table.proofs.tests.is_among.Goals as goal

pub returns-then-is_between : goal.returns-then-is_between
returns-then-is_between c = λ d e. sym (among_from c.args.classes.now c.loop-class.class-index c.args.code d true (omega (arith, c.loop-class-test.true)) e (sym c.is_between.ensures ∙ c.if-is_between.true)) ∙ c.loop-class.invariant d e

pub loop-class-preserved : goal.loop-class-preserved
loop-class-preserved c = λ d e. sym (among_from c.args.classes.now c.loop-class.class-index c.args.code d false (omega (arith, c.loop-class-test.true)) e (sym c.is_between.ensures ∙ c.if-is_between.false)) ∙ c.loop-class.invariant d e
