use Rattle.std.proofs.Common.{◌∙◌, ◌+◌, slice_index, ap, sym}
use Rattle.wast_tokens.specs.Classes.{class_of, begun_in}
use Rattle.wast_tokens.proofs.Classes.{begun_class}
use Rattle.wast_tokens.proofs.chars.beginning_at.Goals as goal

pub returns : goal.returns
returns c =
    let text = c.args.text.now in
    let class = c.class_of.ensures.class ∙ ap class_of c.byte_at.ensures.byte in
    record { beginning = c.begun_in.ensures.begun ∙ ap (λ k. begun_in k (slice_index text (c.args.at + 1))) class ∙ sym (begun_class (slice_index text c.args.at) (slice_index text (c.args.at + 1))) }
