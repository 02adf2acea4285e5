use Rattle.std.proofs.Common.{map, ◌∙◌, arith}
use Rattle.comp_scopes.specs.References.{references}
use Rattle.comp_tree.specs.Lists.{listed}
use Rattle.tree_walks.proofs.Recorded.{counted_places, counted_few}
use Rattle.tree_walks.proofs.origins.all_places.Goals as goal

pub overflow_cast-count : goal.overflow_cast-count
overflow_cast-count g c =
    let few = counted_few c.args.def.now.places.now (references (listed (map g.M.CoreSource.core_module c.args.cores.now) c.args.def.now.node.leaves.now)) _ c.if-def-gt0.false c.requires c.count_references-count.ensures in
    omega (arith, few)

pub returns : goal.returns
returns g c =
    c.from_vec-2.ensures.same_items ∙ c.in_ok-first_places.ensures
    ∙ counted_places c.args.def.now.places.now (references (listed (map g.M.CoreSource.core_module c.args.cores.now) c.args.def.now.node.leaves.now)) _ c.if-def-gt0.false c.requires c.count_references-count.ensures
