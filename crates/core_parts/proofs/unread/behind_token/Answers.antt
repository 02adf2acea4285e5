use Rattle.wast_parser.specs.View.{stand_of}
use Rattle.core_parts.proofs.OneByOne.{is_over_annotation}
use Rattle.core_parts.proofs.unread.behind_token.Goals as goal

pub returns-in-Some-annotation-clause-over : goal.returns-in-Some-annotation-clause-over
returns-in-Some-annotation-clause-over c = is_over_annotation c.args.count (stand_of c.args.cursor) _ c.in-Some-annotation.ensures.next.0
