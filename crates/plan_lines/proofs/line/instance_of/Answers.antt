use Rattle.std.proofs.Common.{sym, ◌∙◌}
use Rattle.plan_lines.specs.Shown.{word_of, rest_of}
use Rattle.plan_lines.proofs.Read.{said_instance}
use Rattle.plan_lines.proofs.line.instance_of.Goals as goal

pub returns-then-are_arguments-clause-said : goal.returns-then-are_arguments-clause-said
returns-then-are_arguments-clause-said c =
    said_instance (word_of c.args.name) (word_of c.args.part) (rest_of 32 c.args.arguments) (sym c.is_of.ensures ∙ c.if-is_of.true) (sym c.is_of-then-is_of.ensures ∙ c.if-is_of-2.true) (sym c.are_arguments.ensures ∙ c.if-are_arguments.true)
