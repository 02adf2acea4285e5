use Rattle.std.proofs.Common.{sym, ◌∙◌, ap}
use Rattle.tree_write.specs.Kept.{put}
use Rattle.tree_write.proofs.ProducerFields.{other_length, no_texts, no_version, pair_put}
use Rattle.tree_write.proofs.Puts.{put_none}
use Rattle.tree_write.proofs.producers.write_producer.Goals as goal

pub returns-then-leaves-ne2 : goal.returns-then-leaves-ne2
returns-then-leaves-ne2 g c = λ cores. let k = g.S.Sink.kept c.args.sink.now in sym (ap (λ xs. put xs k) (other_length cores c.args.leaves.now c.if-leaves-ne2.true) ∙ put_none k)

pub returns-then-not-is_text : goal.returns-then-not-is_text
returns-then-not-is_text g c =
    λ cores. let k = g.S.Sink.kept c.args.sink.now in sym (ap (λ xs. put xs k) (no_texts cores c.args.leaves.now c.index-leaves-0.result c.if-leaves-ne2.false c.index-leaves-0.is (sym (c.is_text.ensures cores) ∙ c.if-not-is_text.true)) ∙ put_none k)

pub returns-then-not-is_text-2 : goal.returns-then-not-is_text-2
returns-then-not-is_text-2 g c =
    λ cores. let k = g.S.Sink.kept c.args.sink.now in sym (ap (λ xs. put xs k) (no_version cores c.args.leaves.now c.index-leaves-1.result c.if-leaves-ne2.false c.index-leaves-1.is (sym (c.is_text-2.ensures cores) ∙ c.if-not-is_text-2.true)) ∙ put_none k)

pub returns : goal.returns
returns g c =
    λ cores. pair_put cores c.args.leaves.now c.index-leaves-0.result c.index-leaves-1.result _ _ _ c.if-leaves-ne2.false c.index-leaves-0.is c.index-leaves-1.is (sym (c.is_text.ensures cores) ∙ c.if-not-is_text.false) (sym (c.is_text-2.ensures cores) ∙ c.if-not-is_text-2.false)
    (c.write_part.ensures cores) (c.write_part-2.ensures cores)
