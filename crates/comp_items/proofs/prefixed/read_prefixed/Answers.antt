use Rattle.std.proofs.Common.{[], ◌∷◌}
use Rattle.comp_model.specs.Model.{◌▸◌, no_leaf}
use Rattle.comp_model.specs.Rows.{a_ref}
use Rattle.text_table.specs.Code.{rule_of}
use Rattle.text_table.specs.ItemKinds.{core_item_space}
use Rattle.comp_items.specs.Items.{core_item_leaf, prefixed_core_item}
use Rattle.comp_items.specs.ReferenceLaws.{reads_prefixed}
use Rattle.typed_parts.proofs.Given.{taken_alike, fit_read, stands_read}
use Rattle.comp_items.proofs.prefixed.read_prefixed.Goals as goal

pub read_leaves-requires : goal.read_leaves-requires
read_leaves-requires g c = record { fit = taken_alike (rule_of c.prefixed_rule.result.now) (prefixed_core_item c.args.legacy (core_item_space g.K.CoreItemWord.core_item_kind)) (c.prefixed_rule.ensures) (reads_prefixed c.args.legacy g.K.CoreItemWord.core_item_kind).taken }

pub from_tree-requires : goal.from_tree-requires
from_tree-requires g c =
    fit_read (prefixed_core_item c.args.legacy (core_item_space g.K.CoreItemWord.core_item_kind)) (a_ref (core_item_space g.K.CoreItemWord.core_item_kind) ∷ []) (reads_prefixed c.args.legacy g.K.CoreItemWord.core_item_kind).shaped
    (rule_of c.prefixed_rule.result.now) (c.prefixed_rule.ensures) c.args.parser.now c.read_leaves.new.parser c.in-Ok.leaves.items c.as_slice.result.now c.as_slice.ensures.value c.in-Ok.ensures.gives

pub returns-in-Ok-from_tree-clause-gives : goal.returns-in-Ok-from_tree-clause-gives
returns-in-Ok-from_tree-clause-gives g c =
    stands_read (prefixed_core_item c.args.legacy (core_item_space g.K.CoreItemWord.core_item_kind)) (a_ref (core_item_space g.K.CoreItemWord.core_item_kind) ∷ []) (reads_prefixed c.args.legacy g.K.CoreItemWord.core_item_kind).shaped (λ x. core_item_leaf (core_item_space g.K.CoreItemWord.core_item_kind) x.idx x.export_name ▸ no_leaf)
    c.in-Ok-from_tree.item (rule_of c.prefixed_rule.result.now) (c.prefixed_rule.ensures) c.args.parser.now c.read_leaves.new.parser c.in-Ok.leaves.items c.as_slice.result.now c.as_slice.ensures.value c.in-Ok.ensures.gives c.in-Ok-from_tree.ensures
