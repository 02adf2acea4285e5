use Rattle.std.proofs.Common.{[], ap, ◌∙◌, length}
use Rattle.core_model.specs.Bytes.{export_item}
use Rattle.core_syntax.specs.Measures.{capped}
use Rattle.core_syntax.specs.Ids.{reference_of}
use Rattle.core_write.specs.Exports.{no_counts}
use Rattle.core_fits.proofs.ExportsSized.{written_other}
use Rattle.core_fits.proofs.exports.written_size.Goals as goal

pub returns-in_default : goal.returns-in_default
returns-in_default c =
    written_other c.one.result no_counts c.args.export.now.span.offset c.args.export.now.name.now c.args.export.now.kind (reference_of c.args.export.now.item) c.in_default.not-Tag c.one.ensures.count
    (λ s. c.one.ensures.bytes ∙ c.export_length.ensures s ∙ ap (λ i. capped (length (export_item [] s i c.args.export.now.name.now))) c.number_of.ensures) c.one.ensures.fits
