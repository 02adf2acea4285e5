use Rattle.std.proofs.Common.{refl}
use Rattle.comp_tree.specs.Lists.{listed}
use Rattle.tree_write.proofs.ProducerFields.{producers_put}
use Rattle.tree_write.proofs.producers.write_producers.Goals as goal

pub returns : goal.returns
returns g c = λ cores. producers_put _ (listed cores c.args.leaves.now) c.write_fields-count.result _ _ _ _ refl (c.write_fields-count.ensures.count cores) (c.write_fields-count.ensures.bytes cores) c.write_unsigned.ensures c.write_text.ensures
