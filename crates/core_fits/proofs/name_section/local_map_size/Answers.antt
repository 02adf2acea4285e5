use Rattle.comp_model.specs.declared.Space.TheVariants.{CoreFunc}
use Rattle.core_model.specs.Items.{items_in}
use Rattle.core_syntax.specs.Fields.{fields_of}
use Rattle.core_write.specs.NamesWritten.{param_counts}
use Rattle.core_fits.proofs.SectionsSized.{few_locals}
use Rattle.core_fits.proofs.name_section.local_map_size.Goals as goal

pub returns : goal.returns
returns c = λ n. c.subsection_size.ensures n _ _ c.all_locals_size.ensures (few_locals (param_counts (fields_of c.args.fields.now)) 0 (items_in CoreFunc (fields_of c.args.fields.now)))
