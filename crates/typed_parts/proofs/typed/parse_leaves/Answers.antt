use Rattle.std.proofs.Common.{refl}
use Rattle.text_table.specs.Code.{rule_of}
use Rattle.typed_parts.proofs.Reading.{fit_given, stands_given}
use Rattle.typed_parts.proofs.typed.parse_leaves.Goals as goal

pub from_tree-requires : goal.from_tree-requires
from_tree-requires g c κs = (
  (refl, tt),
  fit_given c.rules_leave_their_sorts.ensures c.names_are_of_text.ensures g.T.OfLeaves.line g.T.OfLeaves.shapes g.T.OfLeaves.is_of_shapes g.T.OfLeaves.is_readable
      (rule_of c.rule.result.now) c.rule.ensures c.args.parser.now c.read_parts.new.parser c.in-Ok.parts c.as_slice.result.now c.as_slice.ensures.value c.in-Ok.ensures.gives,
)

pub returns-in-Ok-from_tree-clause-gives : goal.returns-in-Ok-from_tree-clause-gives
returns-in-Ok-from_tree-clause-gives g c =
    stands_given c.rules_leave_their_sorts.ensures c.names_are_of_text.ensures g.T.OfLeaves.line g.T.OfLeaves.shapes g.T.OfLeaves.is_of_shapes g.T.OfLeaves.is_readable
    g.T.OfLeaves.leaves c.in-Ok-from_tree.value (rule_of c.rule.result.now) c.rule.ensures c.args.parser.now c.read_parts.new.parser c.in-Ok.parts c.as_slice.result.now c.as_slice.ensures.value c.in-Ok.ensures.gives c.in-Ok-from_tree.ensures
