use Rattle.std.proofs.Common.{sym, ◌∙◌, ap}
use Rattle.comp_model.specs.Payloads.{joined}
use Rattle.tree_write.specs.Kept.{put}
use Rattle.tree_write.proofs.ProducerFields.{field_put, no_field, one_field}
use Rattle.tree_write.proofs.Puts.{put_none}
use Rattle.tree_write.proofs.producers.write_field.Goals as goal

pub returns-then-nodes-eq0-clause-bytes : goal.returns-then-nodes-eq0-clause-bytes
returns-then-nodes-eq0-clause-bytes g c = λ cores. let k = g.S.Sink.kept c.args.sink.now in sym (ap (λ fs. put (joined fs) k) (no_field cores c.args.name.now c.args.nodes.now c.if-nodes-eq0.true) ∙ put_none k)

pub returns-clause-bytes : goal.returns-clause-bytes
returns-clause-bytes g c = λ cores. field_put cores c.args.name.now c.args.nodes.now _ _ _ _ c.if-nodes-eq0.false (c.write_list.ensures cores) c.write_unsigned.ensures c.write_text.ensures

pub returns-clause-count : goal.returns-clause-count
returns-clause-count g c = λ cores. one_field cores c.args.name.now c.args.nodes.now c.if-nodes-eq0.false
