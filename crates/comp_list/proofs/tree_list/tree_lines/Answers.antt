use Rattle.std.proofs.Common.{ap, ◌∙◌, ◌++◌}
use Rattle.comp_list.specs.Listing.{listing}
use Rattle.item_tree.specs.Model.{component_of}
use Rattle.comp_list.proofs.tree_list.tree_lines.Goals as goal

pub returns : goal.returns
returns c = c.from_vec.ensures.same_items ∙ c.in_ok-push_tree.ensures tt ∙ ap (λ q. q ++ listing (component_of c.args.tree.now)) c.new-lines.ensures.items
