use Rattle.tree_write.proofs.Closing.{nothing_closed, closed}
use Rattle.tree_write.proofs.sections.close_section.Goals as goal

pub returns-in-None : goal.returns-in-None
returns-in-None g c = λ before items h. nothing_closed before _ c.args.front items c.in-None.is h

pub returns-in-Some : goal.returns-in-Some
returns-in-Some g c = λ before items h. closed before _ _ _ _ c.args.front c.in-Some.kind c.section_number.result items c.in-Some.is h c.write_count.ensures c.close.ensures c.section_number.ensures c.byte.ensures
