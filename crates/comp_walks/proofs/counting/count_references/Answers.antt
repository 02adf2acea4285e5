use Rattle.std.proofs.Common.{◌∙◌, ap, zero-add}
use Rattle.comp_model.specs.Events.{told_leaves, enters_none}
use Rattle.comp_scopes.specs.References.{references}
use Rattle.comp_walks.specs.Counting.{count_step}
use Rattle.comp_walks.specs.Weigh.{capped}
use Rattle.comp_walks.proofs.CountTold.{leaves-counted}
use Rattle.comp_walks.proofs.counting.count_references.Goals as goal

pub returns : goal.returns
returns g c =
    let ls = g.T.Node.leaves c.args.node.now in
    c.count.ensures ∙ c.walk_leaves.ensures ∙ ap (told_leaves count_step enters_none ls) c.new-tally.ensures ∙ leaves-counted ls 0 ∙ ap capped (zero-add (references ls))
