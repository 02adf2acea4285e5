-- What is made of the fields that a text spells is what their tree stands for.
use Rattle.std.proofs.Common.{◌≡◌, List, [], ◌∷◌, refl, ap, ◌∙◌}
use Rattle.comp_model.specs.CoreModules.{CoreModule}
use Rattle.comp_model.specs.Model.{core_source}
use Rattle.core_model.specs.Module.{module_with}
use Rattle.core_model.specs.Words.{FieldsWord}
use Rattle.wast_grammar.specs.Stand.{Stand}
use Rattle.wast_grammar.specs.Read.{read, reads as is_read}
use Rattle.wast_grammar.specs.Spells.{Spells}
use Rattle.wast_grammar.specs.CoreRows.{field_groups}
use Rattle.wast_parser.specs.View.{many_view}
use Rattle.core_syntax.specs.Fields.{fields_of}
use Rattle.core_syntax.specs.CoreView.{field_group_view}
use Rattle.core_syntax.specs.declared.fields.ModuleField.{ModuleField}
use Rattle.text_rules.specs.Rule.{reads, Outside, outside, core_fields, some_core_fields}
use Rattle.text_rules.specs.Made.{Made}
use Rattle.text_rules.specs.Makes.{makes, a_leaf}
use Rattle.text_rules.specs.CoreMade.{core_module_of}
use Rattle.core_made.proofs.Fields.{no_naming, core_module_is}
use Rattle.core_made.proofs.Spelled.{fields_have_text, some_fields_have_text, read_fields_have_text}

-- what a rule leaves of fields is their module
abbrev left_of : Outside → List ModuleField → Made
left_of o fs = makes (many_view field_group_view fs) (outside o)

abbrev a_module : CoreModule → Made
a_module m = a_leaf (core_source m)

module_left : (fs : List ModuleField) → left_of core_fields fs ≡ a_module (core_module_of (many_view field_group_view fs))
unfolding makes
module_left [] = refl
module_left (f ∷ fs) = refl

fields_left : (fs : List ModuleField) → left_of some_core_fields fs ≡ a_module (core_module_of (many_view field_group_view fs))
unfolding makes
fields_left [] = refl
fields_left (f ∷ fs) = refl

pub module_fields_are : (s t : Stand) (fs : List ModuleField) → Spells (reads (outside core_fields)) s t (many_view field_group_view fs) → FieldsWord (fields_of fs)
    → left_of core_fields fs ≡ a_module (module_with no_naming (fields_of fs))
module_fields_are s t fs d w = module_left fs ∙ ap a_module (core_module_is fs (fields_have_text fs d) w)

pub fields_alone_are : (s t : Stand) (fs : List ModuleField) → Spells (reads (outside some_core_fields)) s t (many_view field_group_view fs) → FieldsWord (fields_of fs)
    → left_of some_core_fields fs ≡ a_module (module_with no_naming (fields_of fs))
fields_alone_are s t fs d w = fields_left fs ∙ ap a_module (core_module_is fs (some_fields_have_text fs d) w)

pub read_fields_are : (s t : Stand) (fs : List ModuleField) → read field_groups s ≡ is_read (many_view field_group_view fs) t → FieldsWord (fields_of fs)
    → core_module_of (many_view field_group_view fs) ≡ module_with no_naming (fields_of fs)
read_fields_are s t fs e w = core_module_is fs (read_fields_have_text fs s t e) w
