use Rattle.std.proofs.Common.{subst}
use Rattle.wast_grammar.specs.Read.{Gives}
use Rattle.wast_parser.specs.View.{stand_of}
use Rattle.core_syntax.specs.CoreView.{instruction_view}
use Rattle.core_parts.proofs.Operations.{reads_on}
use Rattle.core_syntax.proofs.operation_read.operation_of.Goals as goal

pub returns-clause-gives : goal.returns-clause-gives
returns-clause-gives c =
    subst (Gives instruction_view c.operands.result c.operands.new.parser)
    (reads_on c.args.kind c.args.parser.now (stand_of c.cursor.result) (stand_of c.behind-behind.result) c.advance.new.self c.cursor.ensures.place c.requires c.behind-behind.ensures.behind c.advance.ensures.place)
    c.operands.ensures.gives
