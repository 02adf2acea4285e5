use Rattle.tree_write.specs.Along.{of_space}
use Rattle.tree_write.proofs.NameSections.{map_put}
use Rattle.tree_write.proofs.name_section.write_map.Goals as goal

pub returns : goal.returns
returns g c =
    map_put c.args.space (of_space c.args.space c.args.items.now) c.write_items-count.result c.length-end.result _ _ _ _ _ _ c.write_items-count.ensures.count c.if-count-eq0.false c.write_items-count.ensures.bytes c.write_unsigned.ensures
    c.write_sort.ensures c.close.ensures c.length-end.ensures c.byte.ensures
