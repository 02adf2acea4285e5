-- Rules that the tests refuse.
use Rattle.std.proofs.Common.{◌≡◌, false, refl}
use Rattle.comp_model.specs.declared.Space.TheVariants as space
use Rattle.comp_model.specs.Core.{outward}
use Rattle.comp_model.specs.declared.row.Row.TheVariants as rows
use Rattle.wast_grammar.specs.Grammar as g
use Rattle.text_rules.specs.Rule.{pair, also, wraps, reference, keeps, a_text, a_count, inline, a_part, a_def, a_number, nothing}
use Rattle.text_rules.specs.Forms.{first_word, of_row, optional_id}
use Rattle.text_rules.specs.ValueRules.{val, fty}
use Rattle.text_rules.specs.TypeRules.{inline_exports, alias}
use Rattle.text_rules.specs.FieldRules.{custom, start}
use Rattle.text_rules.specs.Tests.{row_passes}

-- a count in front of the type of its list
count_first : row_passes g.Val (wraps (inline space.Ty) (of_row rows.FixedLengthListType (pair (keeps a_count) val))) ≡ false
count_first = refl

-- the row of another type
another_row : row_passes g.Val (wraps (inline space.Ty) (of_row rows.MapType val)) ≡ false
another_row = refl

-- a part that may be missing, and isn't said to be
bare_part : row_passes g.Val (wraps (inline space.Ty) (of_row rows.OptionType (wraps a_part val))) ≡ false
bare_part = refl

-- a function type in the place of a value type
function_as_value : row_passes g.Val (wraps (inline space.Ty) (of_row rows.FunctionType fty)) ≡ false
function_as_value = refl

-- a reference into another space
another_space : row_passes g.Val (reference space.Func outward) ≡ false
another_space = refl

-- a code that no primitive type has
no_code : row_passes g.Val (also nothing (a_number 0x72)) ≡ false
no_code = refl

-- a row that no definition has
no_definition : row_passes g.ComponentItem (wraps a_def (of_row rows.NamedType (pair (first_word "type") (pair (keeps a_text) val)))) ≡ false
no_definition = refl

-- two ids of one item
two_ids : row_passes g.ComponentItem (wraps a_def (of_row rows.OptionType (pair (first_word "type") (pair optional_id (pair optional_id val))))) ≡ false
two_ids = refl

-- inline exports of a custom section
exported_custom : row_passes g.ComponentItem (wraps a_def (of_row rows.Custom (pair inline_exports (pair (keeps a_text) (keeps a_text))))) ≡ false
exported_custom = refl

-- inline exports in the type of a component, and a custom section and a start there
typed_exports : row_passes g.ComponentTypeItem (wraps a_def (of_row rows.OptionType (pair inline_exports val))) ≡ false
typed_exports = refl

typed_custom : row_passes g.ComponentTypeItem custom ≡ false
typed_custom = refl

typed_start : row_passes g.ComponentTypeItem start ≡ false
typed_start = refl

-- an alias of components in a module type
module_alias : row_passes g.ModuleTypeItem alias ≡ false
module_alias = refl

-- a row at its own head
headed : row_passes g.Val val ≡ false
headed = refl
