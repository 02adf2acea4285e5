use Rattle.wast_parser.specs.View.{stand_of}
use Rattle.core_parts.proofs.OneByOne.{is_over_annotation}
use Rattle.tree_read.proofs.skip.count_behind.Goals as goal

pub returns-in-Some-annotation : goal.returns-in-Some-annotation
returns-in-Some-annotation c = is_over_annotation c.args.count (stand_of c.args.cursor) _ c.in-Some-annotation.ensures.next.0
