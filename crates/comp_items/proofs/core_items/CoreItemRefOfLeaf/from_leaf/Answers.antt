use Rattle.std.proofs.Common.{ap, ◌∙◌}
use Rattle.comp_model.specs.Model.{ref}
use Rattle.comp_tree.specs.Model.{path_of}
use Rattle.text_table.specs.ItemKinds.{core_item_space}
use Rattle.typed_nodes.proofs.References.{reference_is, one_step}
use Rattle.typed_nodes.specs.References.{root_at}
use Rattle.comp_items.specs.Items.{core_item_leaf}
use Rattle.comp_items.proofs.Names.{one_name}
use Rattle.comp_items.proofs.core_items.CoreItemRefOfLeaf.from_leaf.Goals as goal

pub returns : goal.returns
returns g c = λ cores f.
    let s = core_item_space g.K.CoreItemWord.core_item_kind in
    ap (λ i. core_item_leaf s i c.step_in.result) c.root_in.ensures
    ∙ ap (λ q. ref s (path_of (root_at c.args.part.now) q)) (c.step_in.ensures (one_step cores c.args.part.now s (one_name g.K.CoreItemWord.core_item_kind) f))
    ∙ reference_is cores c.args.part.now s f
