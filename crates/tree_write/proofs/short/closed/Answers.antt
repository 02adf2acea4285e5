use Rattle.std.proofs.Common.{refl}
use Rattle.tree_write.proofs.Sizes.{none_open, one_open}
use Rattle.tree_write.proofs.short.closed.Goals as goal

pub returns-in-None : goal.returns-in-None
returns-in-None c = λ items fit h. none_open c.args.front _ items fit c.in-None.is refl refl h

pub returns-in-Some : goal.returns-in-Some
returns-in-Some c =
    λ items fit h. one_open c.args.front c.in-Some.kind _ items fit c.is_word-counted.result c.is_word-short.result c.body_length-body.result c.framed_length-framed.result c.saturating_add-numbered.result c.in-Some.is c.body_length-body.ensures c.framed_length-framed.ensures
    c.is_word-counted.ensures c.is_word-short.ensures refl c.saturating_add-numbered.ensures c.saturating_add-bytes.ensures h
