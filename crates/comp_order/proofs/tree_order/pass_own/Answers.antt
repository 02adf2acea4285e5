use Rattle.std.proofs.Common.{◌≡◌, subst, map}
use Rattle.item_tree.specs.Model.{item_row}
use Rattle.comp_list.specs.Places.{row_of, row_leaves, row_references}
use Rattle.comp_order.specs.Order.{verdict_of}
use Rattle.comp_order.specs.Pass.{pass}
use Rattle.comp_order.proofs.tree_order.pass_own.Goals as goal

pub returns : goal.returns
returns c = λ before befores h a.
    let n = item_row c.args.item.now in
    subst (λ o. c.pass_item_places.result ≡ pass c.args.line (map (verdict_of befores before (row_of n) (row_leaves n) o) (row_references n))) c.outer_count_of.ensures
    (c.pass_item_places.ensures before befores (row_of n) (row_leaves n) h c.own_counts_of-own.ensures a)
