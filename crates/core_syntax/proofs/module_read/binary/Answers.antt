use Rattle.std.proofs.Common.{codes}
use Rattle.wast_grammar.specs.Classes.{keyword}
use Rattle.wast_grammar.specs.CoreRows.{strings}
use Rattle.core_parts.proofs.GroupLoops.{then_gives}
use Rattle.core_syntax.proofs.module_read.binary.Goals as goal

pub returns-in-Ok-clause-gives : goal.returns-in-Ok-clause-gives
returns-in-Ok-clause-gives c = then_gives _ c.strings.result (keyword (codes "binary")) strings c.args.parser.now c.take_word.new.parser c.strings.new.parser c.in-Ok.ensures.gives c.strings.ensures.gives
