use Rattle.text_table.specs.Code.{rule_of}
use Rattle.typed_parts.proofs.Reading.{leaves_read}
use Rattle.typed_parts.proofs.read.read_leaves.Goals as goal

pub returns-in-Ok-clause-gives : goal.returns-in-Ok-clause-gives
returns-in-Ok-clause-gives c =
    leaves_read c.rules_leave_their_sorts.ensures c.names_are_of_text.ensures (rule_of c.args.rule.now) c.requires.fit.sound c.args.parser.now c.read_parts.new.parser c.in-Ok.parts c.in-Ok.ensures.gives
