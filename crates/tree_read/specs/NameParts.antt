-- The names of imports and exports, as they are read.
use Rattle.std.specs.Prelude.{Option, option_map, Bool, not, is_some, ◌&&◌}
use Rattle.std.proofs.Common.{Bor}
use Rattle.comp_model.specs.Core.{Text}
use Rattle.comp_model.specs.Model as m
use Rattle.wast_grammar.specs.Classes.{Class}
use Rattle.wast_grammar.specs.Grammar.{Grammar, Value, none, text, both, before, leaf, group, a_text, chosen_of}
use Rattle.comp_model.specs.Model.{◌▸◌}
use Rattle.comp_model.specs.declared.row.Row.TheVariants as rows
use Rattle.text_rules.specs.Makes.{extern_name, attribute}
use Rattle.tree_read.specs.declared.names.NameAttributes.{NameAttributes}

abbrev pub said : Bor Text → Value
said t = text t.now

abbrev pub attribute_view : Option (Bor Text) → Value
attribute_view o = chosen_of (option_map said o)

abbrev pub attributes_view : NameAttributes → Value
attributes_view x = both (attribute_view x.implements) (both (attribute_view x.version_suffix) (both (attribute_view x.external_id) none))

-- the group of a word of this class, with a text
abbrev pub text_group : Class → Grammar
text_group c = group (before c (leaf a_text))

-- the leaf of a name with these attributes
abbrev pub name_made : Bor Text → NameAttributes → m.Leaf
name_made n x = extern_name n.now (attribute_view x.implements) (attribute_view x.version_suffix) (attribute_view x.external_id)

-- the node of a name with its attributes
abbrev pub attributed : Text → NameAttributes → m.Leaf
attributed n x = m.node (m.row rows.AttributedName (m.text n ▸ attribute (attribute_view x.implements) ▸ attribute (attribute_view x.version_suffix) ▸ attribute (attribute_view x.external_id) ▸ m.no_leaf))

abbrev pub none_said : NameAttributes → Bool
none_said x = not (is_some x.implements) && (not (is_some x.version_suffix) && not (is_some x.external_id))
