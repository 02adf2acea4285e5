use Rattle.std.proofs.Common.{◌<◌, length, get_or, sym, ◌∙◌, ap, arith}
use Rattle.comp_model.specs.Payloads.{joined}
use Rattle.comp_tree.specs.Lists.{nodes_listed}
use Rattle.tree_write.specs.Kept.{put}
use Rattle.tree_write.proofs.ProducerFields.{names_done, no_fields, fields_put}
use Rattle.tree_write.proofs.Puts.{put_none}
use Rattle.tree_write.proofs.Turns.{same_item}
use Rattle.tree_write.proofs.producers.+write_fields.Goals as goal

pub returns-then-at-names-clause-bytes : goal.returns-then-at-names-clause-bytes
returns-then-at-names-clause-bytes g t c = λ cores. let k = g.S.Sink.kept c.args.sink.now in sym (ap (λ fs. put (joined fs) k) (names_done cores c.args.names.now c.args.leaves.now c.args.at c.if-at-names.true) ∙ put_none k)

pub returns-in-Some-clause-bytes : goal.returns-in-Some-clause-bytes
returns-in-Some-clause-bytes g t c =
    let names = c.args.names.now in
    let inside : c.args.at < length names = omega (arith, c.if-at-names.false) in
    λ cores. fields_put cores names c.args.leaves.now c.args.at (get_or names c.args.at _) (nodes_listed cores c.in-Some.nodes.now) _ _ _ inside (same_item names c.args.at _ inside) (c.in-Some.ensures cores) (c.write_fields-behind.ensures.bytes cores) (c.write_field.ensures.bytes cores)

pub returns-in-None-clause-bytes : goal.returns-in-None-clause-bytes
returns-in-None-clause-bytes g t c = λ cores. let k = g.S.Sink.kept c.args.sink.now in sym (ap (λ fs. put (joined fs) k) (no_fields cores c.args.names.now c.args.leaves.now c.args.at (c.in-None.ensures cores)) ∙ put_none k)

pub returns-in-None-clause-count : goal.returns-in-None-clause-count
returns-in-None-clause-count g t c = λ cores. sym (ap length (no_fields cores c.args.names.now c.args.leaves.now c.args.at (c.in-None.ensures cores)))
