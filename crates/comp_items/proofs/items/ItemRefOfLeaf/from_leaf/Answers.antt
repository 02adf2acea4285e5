use Rattle.std.proofs.Common.{ap, ◌∙◌}
use Rattle.comp_model.specs.Model.{ref}
use Rattle.comp_tree.specs.Model.{path_of}
use Rattle.text_table.specs.ItemKinds.{item_space}
use Rattle.typed_nodes.proofs.References.{reference_is}
use Rattle.typed_nodes.specs.References.{root_at}
use Rattle.comp_items.specs.Items.{item_leaf}
use Rattle.comp_items.proofs.items.ItemRefOfLeaf.from_leaf.Goals as goal

pub returns : goal.returns
returns g c = λ cores f.
    let s = item_space g.K.ItemWord.item_kind in
    ap (λ i. item_leaf s i c.in_ok-steps_in.field-0.items) c.root_in.ensures
    ∙ ap (λ q. ref s (path_of (root_at c.args.part.now) q)) c.in_ok-steps_in.ensures
    ∙ reference_is cores c.args.part.now s f
