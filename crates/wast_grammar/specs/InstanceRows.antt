-- Instances and core instances, in the words of the Component Model's Explainer.md.
use Rattle.wast_grammar.specs.Grammar.{Grammar, nothing, leaf, a_text, pair, either, many, word, word_at, group, placed, going, by_test}
use Rattle.wast_grammar.specs.ValueRows.{is_group}
use Rattle.wast_grammar.specs.NameRows.{is_inline_import, inline_import}
use Rattle.wast_grammar.specs.ReferenceRows.{named, item, is_item, core_item, core_path, index_or_item, is_index_alone}
use Rattle.wast_grammar.specs.TypeRows.{inline_exports, instance_use, export_parts}

-- cbexp = "(" "export" text "(" ckind idx text? ")" ")" (Instance Definitions)
abbrev pub core_bundle_export : Grammar
core_bundle_export = group (word "export" (pair (leaf a_text) (group core_item)))

-- carg = "(" "with" text ( "(" "instance" idx text? ")" | "(" "instance" cbexp* ")" ) ")", where an index with `)` or a string behind it is a
-- reference (Instance Definitions)
abbrev pub core_argument : Grammar
core_argument = group (word "with" (pair (leaf a_text) (group (word "instance" (by_test is_index_alone core_path (many going core_bundle_export))))))

-- "core" "instance" id? name? ( "(" "instantiate" ior("module") carg* ")" | cbexp* ) (Instance Definitions)
abbrev pub core_instance : Grammar
core_instance = pair (placed (word "core" (word "instance" nothing))) (named (
    either (is_group "instantiate") (group (word "instantiate" (pair (index_or_item "module") (many going core_argument)))) (many going core_bundle_export)))

-- export* of an instance (Instance Definitions)
abbrev pub bundle_exports : Grammar
bundle_exports = many going (group (word "export" export_parts))

-- arg = "(" "with" text ( "(" eref ")" | "(" "instance" export* ")" ) ")", where a group is eref if an index follows its words (Instance
-- Definitions)
abbrev pub argument : Grammar
argument = group (word "with" (pair (leaf a_text) (by_test is_item (group item) (group (word "instance" bundle_exports)))))

-- "instance" id? name? iexp* ( iimp use(ity) | "(" "instantiate" ior("component") arg* ")" | export* ) (Instance Definitions)
abbrev pub instance : Grammar
instance = pair (word_at "instance") (named (pair inline_exports (by_test is_inline_import (pair inline_import instance_use)
    (either (is_group "instantiate") (group (word "instantiate" (pair (index_or_item "component") (many going argument)))) bundle_exports))))
