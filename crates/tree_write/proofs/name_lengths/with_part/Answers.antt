use Rattle.tree_write.proofs.SpaceSums.{part_some, part_none}
use Rattle.tree_write.proofs.name_lengths.with_part.Goals as goal

pub returns-in-Some : goal.returns-in-Some
returns-in-Some c = λ ns h t. part_some c.with_name.result ns c.part_name.result c.in-Some.name _ _ c.in-Some.is c.part_name.ensures (c.with_name.ensures ns h t)

pub returns-in-None : goal.returns-in-None
returns-in-None c = λ ns h t. part_none c.args.sum ns c.part_name.result _ _ c.in-None.is c.part_name.ensures t
