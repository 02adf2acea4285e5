use Rattle.wast_grammar.specs.Classes.{opening, keyword}
use Rattle.wast_grammar.specs.Grammar.{before}
use Rattle.wast_grammar.specs.CoreForms.{items_on}
use Rattle.wast_grammar.specs.CoreRows.{is_value_type}
use Rattle.core_parts.proofs.GroupLoops.{then_gives}
use Rattle.core_parts.proofs.word_groups.some_groups.Goals as goal

pub returns-in-Ok-take_word-clause-gives : goal.returns-in-Ok-take_word-clause-gives
returns-in-Ok-take_word-clause-gives g c =
    let row = items_on c.args.word.now is_value_type g.T.GroupItem.item_row in
    let end = c.items_on.new.parser in
    then_gives _ c.items_on.result opening (before (keyword c.args.word.now) row) c.args.parser.now c.enter.new.self end c.in-Ok.ensures.gives
    (then_gives _ c.items_on.result (keyword c.args.word.now) row c.enter.new.self c.take_word.new.parser end c.in-Ok-take_word.ensures.gives c.items_on.ensures.gives)
