use Rattle.tree_write.proofs.SpaceSums.{no_map_told, map_told}
use Rattle.tree_write.proofs.name_lengths.map_length.Goals as goal

pub returns-then-sum-eq0 : goal.returns-then-sum-eq0
returns-then-sum-eq0 c = λ ns t. no_map_told c.args.space ns c.args.sum c.if-sum-eq0.true t

pub returns : goal.returns
returns c = λ ns t. map_told c.args.space ns c.args.sum c.uleb_length.result c.saturating_add-count.result c.sort_length.result c.saturating_add-body.result c.framed_length.result _ c.if-sum-eq0.false c.uleb_length.ensures.bytes c.saturating_add-count.ensures c.sort_length.ensures c.saturating_add-body.ensures c.framed_length.ensures c.saturating_add.ensures t
