-- Instances and core instances, in the words of the Component Model's Explainer.md.
use Rattle.std.specs.Prelude.{[], ◌∷◌}
use Rattle.comp_model.specs.declared.Space.TheVariants as space
use Rattle.comp_model.specs.declared.row.Row.TheVariants as rows
use Rattle.wast_grammar.specs.Classes.{opening}
use Rattle.wast_grammar.specs.Grammar as g
use Rattle.wast_grammar.specs.Grammar.{next, going}
use Rattle.wast_grammar.specs.ValueRows.{is_group}
use Rattle.wast_grammar.specs.NameRows.{is_inline_import}
use Rattle.wast_grammar.specs.ReferenceRows.{is_item, is_index_alone}
use Rattle.text_rules.specs.Rule.{Rule, nothing, keeps, pair, either, by_test, many, row, wraps, outside, a_text, bundle, a_node, a_list, a_def, dropped, a_plain_name}
use Rattle.text_rules.specs.Forms.{word, group, first_word, first_words, of_row, entry, optional_id, optional_name, named}
use Rattle.text_rules.specs.ReferenceRules.{item_group, core_item, core_path, index_or_item}
use Rattle.text_rules.specs.TypeRules.{extern_name, inline_exports, instance_use}

-- cbexp = "(" "export" text "(" ckind idx text? ")" ")", in its parentheses (Instance Definitions)
abbrev pub core_export : Rule
core_export = word "export" (pair (keeps a_text) (group core_item))

-- cbexp* (Instance Definitions)
abbrev pub core_exports : Rule
core_exports = wraps a_list (many going (group (entry rows.CoreBundleExport core_export)))

-- cbexp*, with the row of a core instance of exports (Instance Definitions)
abbrev pub core_bundle : Rule
core_bundle = of_row rows.CoreBundle core_exports

-- "(" "instance" idx text? ")" | "(" "instance" cbexp* ")", where an index with `)` or a string behind it is a reference (Instance Definitions)
abbrev pub core_argument_kind : Rule
core_argument_kind = group (word "instance" (by_test is_index_alone (core_path space.CoreInstance) (wraps (bundle space.CoreInstance) core_bundle)))

-- carg = "(" "with" text ( "(" "instance" idx text? ")" | "(" "instance" cbexp* ")" ) ")", in its parentheses (Instance Definitions)
abbrev pub core_argument : Rule
core_argument = word "with" (pair (keeps a_text) core_argument_kind)

-- carg* (Instance Definitions)
abbrev pub core_arguments : Rule
core_arguments = wraps a_list (many going (group (entry rows.CoreArgument core_argument)))

-- "(" "instantiate" ior("module") carg* ")" | cbexp* (Instance Definitions)
abbrev pub core_instance_kind : Rule
core_instance_kind = either (is_group "instantiate")
    (of_row rows.CoreInstantiate (group (word "instantiate" (pair (index_or_item "module" space.CoreModule) core_arguments))))
    core_bundle

-- "core" "instance" id? name? ( "(" "instantiate" ior("module") carg* ")" | cbexp* ) (Instance Definitions)
abbrev pub core_instance : Rule
core_instance = wraps a_def (pair (first_words "core" "instance") (named core_instance_kind))

-- export, whose id, label and description aren't kept (Instance Definitions)
abbrev pub bundle_export : Rule
bundle_export = entry rows.BundleExport (word "export" (pair (wraps dropped optional_id) (pair (wraps dropped optional_name) (pair extern_name (pair item_group
    (wraps dropped (either (next (opening ∷ [])) (row g.NamelessSignature) nothing)))))))

-- ( "(" export ")" )*, with the row of an instance of exports (Instance Definitions)
abbrev pub bundled : Rule
bundled = of_row rows.Bundle (wraps a_list (many going (group bundle_export)))

-- eref | "(" "instance" export* ")", where a group is eref if an index follows its words (Instance Definitions)
abbrev pub argument_kind : Rule
argument_kind = by_test is_item item_group (group (word "instance" (wraps (bundle space.Instance) bundled)))

-- arg = "(" "with" text ( eref | "(" "instance" export* ")" ) ")", in its parentheses (Instance Definitions)
abbrev pub argument : Rule
argument = word "with" (pair (keeps a_text) argument_kind)

-- arg* (Instance Definitions)
abbrev pub arguments : Rule
arguments = wraps a_list (many going (group (entry rows.Argument argument)))

-- iimp = "(" "import" ( text | "(" "interface" text ")" ) ")" (Import and Export Definitions)
abbrev pub inline_import : Rule
inline_import = group (word "import" (outside a_plain_name))

-- iimp use(ity) | "(" "instantiate" ior("component") arg* ")" | export* (Instance Definitions)
abbrev pub instance_kind : Rule
instance_kind = by_test is_inline_import
    (of_row rows.Import (pair inline_import (wraps a_node (of_row rows.InstanceDescription instance_use))))
    (either (is_group "instantiate")
    (of_row rows.Instantiate (group (word "instantiate" (pair (index_or_item "component" space.Component) arguments))))
    bundled)

-- "instance" id? name? iexp* ( iimp use(ity) | "(" "instantiate" ior("component") arg* ")" | export* ) (Instance Definitions)
abbrev pub instance : Rule
instance = wraps a_def (pair (first_word "instance") (named (pair inline_exports instance_kind)))
