-- What a core module beside a tree stands for, by its names and its fields.
use Rattle.std.specs.Prelude.{option_map}
use Rattle.comp_model.specs.CoreModules.{CoreModule}
use Rattle.comp_tree.specs.Model.{id_of, lent_text}
use Rattle.core_model.specs.Module.{module_with}
use Rattle.core_syntax.specs.Fields.{fields_of}
use Rattle.wast_component.specs.declared.module.Module.{Module}

abbrev pub entry_of : Module → CoreModule
entry_of m = module_with (record { id = option_map id_of m.id; label = option_map lent_text m.label }) (fields_of m.fields.now)
