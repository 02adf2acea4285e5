use Rattle.std.proofs.Common.{map}
use Rattle.core_model.specs.Items.{naming_of, items_in}
use Rattle.core_syntax.specs.Fields.{fields_of}
use Rattle.core_fits.proofs.NamesSized.{few_item_names}
use Rattle.core_fits.proofs.name_section.map_size.Goals as goal

pub returns : goal.returns
returns c = λ n. c.subsection_size.ensures n _ _ c.item_names_size.ensures (few_item_names (map naming_of (items_in c.args.space (fields_of c.args.fields.now))))
