use Rattle.wast_grammar.specs.Classes.{keyword}
use Rattle.core_parts.proofs.GroupLoops.{then_gives}
use Rattle.core_parts.proofs.parts.word_then.Goals as goal

pub returns-in-Ok-clause-gives : goal.returns-in-Ok-clause-gives
returns-in-Ok-clause-gives g c = then_gives g.T.Part.view c.part.result (keyword c.args.word.now) g.T.Part.part_row c.args.parser.now c.take_word.new.parser c.part.new.parser c.in-Ok.ensures.gives c.part.ensures.gives
