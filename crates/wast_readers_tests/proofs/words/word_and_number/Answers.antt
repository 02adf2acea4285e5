use Rattle.wast_grammar.specs.Classes.{keyword}
use Rattle.wast_grammar.specs.Grammar.{leaf, a_number, num}
use Rattle.wast_readers_tests.proofs.TokenFirst.{then_reads}
use Rattle.wast_readers_tests.proofs.words.word_and_number.Goals as goal

pub returns-clause-gives : goal.returns-clause-gives
returns-clause-gives c = then_reads (keyword c.args.word.now) (leaf a_number) c.args.parser.now c.take_word.new.parser c.parse.new.self (num c.in_ok-number.number) c.in_ok-take_word.ensures.gives c.in_ok-number.ensures.gives
