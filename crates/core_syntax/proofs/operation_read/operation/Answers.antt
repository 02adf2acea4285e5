use Rattle.wast_parser.specs.View.{stand_of}
use Rattle.core_parts.proofs.Operations.{ends_there}
use Rattle.core_syntax.proofs.operation_read.operation.Goals as goal

pub returns-in-None-clause-gives : goal.returns-in-None-clause-gives
returns-in-None-clause-gives c = ends_there c.args.parser.now (stand_of c.cursor.result) _ _ c.cursor.ensures.place c.in-None.ensures.next c.error.ensures.kind c.error.ensures.offset
