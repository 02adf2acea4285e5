use Rattle.std.proofs.Common.{◌-◌, ◌^◌, length, min, ap, ◌∙◌}
use Rattle.comp_model.specs.Leb.{uleb}
use Rattle.tree_write.proofs.SpaceSums.{name_told}
use Rattle.tree_write.proofs.name_lengths.with_name.Goals as goal

pub returns : goal.returns
returns c = λ ns h t. name_told c.args.sum (record { named = c.saturating_add-named.result; bytes = c.saturating_add-bytes.result }) ns _ c.args.name.now c.items_length-index.result c.framed_length-text.result c.saturating_add-entry.result t
    (c.items_length-index.ensures ∙ ap (λ k. min (length (uleb k)) (2 ^ 64 - 1)) (c.more.ensures h)) c.framed_length-text.ensures c.saturating_add-entry.ensures c.saturating_add-named.ensures c.saturating_add-bytes.ensures
