use Rattle.core_fits.proofs.ExportsSized.{export_long}
use Rattle.core_fits.proofs.exports.export_length.Goals as goal

pub returns : goal.returns
returns c =
    λ s. export_long s c.args.index c.uleb_length.result c.add.result c.text_length.result c.add-2.result c.args.name.now
    c.text_length.ensures c.uleb_length.ensures.bytes c.add.ensures c.add-2.ensures
