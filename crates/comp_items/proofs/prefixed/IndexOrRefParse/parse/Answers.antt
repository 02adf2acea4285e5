use Rattle.std.proofs.Common.{[], ◌∷◌}
use Rattle.comp_model.specs.Model.{◌▸◌, no_leaf}
use Rattle.comp_model.specs.Rows.{a_ref}
use Rattle.text_table.specs.Code.{rule_of}
use Rattle.text_table.specs.ItemKinds.{item_space}
use Rattle.comp_items.specs.Items.{item_leaf, item_or_index}
use Rattle.comp_items.specs.ReferenceLaws.{reads_item_or_index}
use Rattle.typed_parts.proofs.Given.{taken_alike, fit_read, stands_read}
use Rattle.comp_items.proofs.prefixed.IndexOrRefParse.parse.Goals as goal

pub read_leaves-requires : goal.read_leaves-requires
read_leaves-requires g c = record { fit = taken_alike (rule_of c.rule.result.now) (item_or_index (item_space g.K.ItemWord.item_kind)) (c.rule.ensures) (reads_item_or_index g.K.ItemWord.item_kind).taken }

pub from_tree-requires : goal.from_tree-requires
from_tree-requires g c =
    fit_read (item_or_index (item_space g.K.ItemWord.item_kind)) (a_ref (item_space g.K.ItemWord.item_kind) ∷ []) (reads_item_or_index g.K.ItemWord.item_kind).shaped
    (rule_of c.rule.result.now) (c.rule.ensures) c.args.parser.now c.read_leaves.new.parser c.in-Ok.leaves.items c.as_slice.result.now c.as_slice.ensures.value c.in-Ok.ensures.gives

pub returns-in-Ok-from_tree-clause-gives : goal.returns-in-Ok-from_tree-clause-gives
returns-in-Ok-from_tree-clause-gives g c =
    stands_read (item_or_index (item_space g.K.ItemWord.item_kind)) (a_ref (item_space g.K.ItemWord.item_kind) ∷ []) (reads_item_or_index g.K.ItemWord.item_kind).shaped (λ x. item_leaf (item_space g.K.ItemWord.item_kind) x.0.idx x.0.export_names.items ▸ no_leaf)
    c.in-Ok-from_tree.item (rule_of c.rule.result.now) (c.rule.ensures) c.args.parser.now c.read_leaves.new.parser c.in-Ok.leaves.items c.as_slice.result.now c.as_slice.ensures.value c.in-Ok.ensures.gives c.in-Ok-from_tree.ensures
