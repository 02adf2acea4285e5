use Rattle.std.proofs.Common.{◌∙◌, ap, sym, refl, drop, take, map}
use Rattle.text_rules.specs.Made.{first_row, leaves_from}
use Rattle.comp_tree.specs.Model.{leaf_of}
use Rattle.tree_build.specs.Held.{held, loose}
use Rattle.tree_build.proofs.Slices.{take_map, drop_map}
use Rattle.tree_build.proofs.Taken.{node_is, rows_and_leaves}
use Rattle.tree_build.proofs.wraps.take_node.Goals as goal

pub returns-in-Ok : goal.returns-in-Ok
returns-in-Ok c = (
  c.in-Ok.ensures.grows,
  λ fs cs h. record {
    node = c.node_from.ensures cs ∙ node_is c.take_row-row.result (first_row (drop c.args.rows c.args.scratch.now.rows.items)) (map (leaf_of cs) c.in-Ok.leaves.now) (drop c.args.leaves (map (loose fs cs) c.args.scratch.now.leaves.items))
        c.take_row-row.ensures.row
        (c.in-Ok.ensures.taken fs cs h ∙ drop_map (loose fs cs) c.args.leaves c.args.scratch.now.leaves.items);
    rest = rows_and_leaves (held fs cs c.args.scratch.now) _ _ _ _
        c.take_row-row.ensures.rest
        (ap (map (loose fs cs)) c.in-Ok.ensures.rest ∙ take_map (loose fs cs) c.args.leaves c.args.scratch.now.leaves.items);
  },
)
