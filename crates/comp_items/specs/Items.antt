-- What references to items stand for (Component Model, Explainer.md, Alias Definitions).
use Rattle.std.specs.Prelude.{◌≡◌, Bool, true, false, List, Option, refl}
use Rattle.std.proofs.Common.{Bor}
use Rattle.comp_model.specs.Core.{Text, outward}
use Rattle.comp_model.specs.declared.Space.{Space}
use Rattle.comp_model.specs.declared.Space.TheVariants as space
use Rattle.comp_model.specs.Model.{Leaf, ref}
use Rattle.comp_tree.specs.Model.{path_of}
use Rattle.text_rules.specs.ReferenceRules.{space_word, core_words, index_or_item, index_or_core, core_reference, memory_reference}
use Rattle.text_rules.specs.Forms.{group}
use Rattle.text_rules.specs.Rule.{Rule, nothing, keeps, reference, pair, either, by_test, wraps, a_text, path}
use Rattle.typed_nodes.specs.References.{lone_name}
use Rattle.wast_grammar.specs.Grammar.{next, legacy}
use Rattle.wast_grammar.specs.ValueRows.{is_reference, strings}
use Rattle.wast_parser.specs.declared.index.Index.{Index}

-- an item of a space: an index, or the names of exports that lead to it from an instance
abbrev pub item_leaf : Space → Index → List (Bor Text) → Leaf
item_leaf s i names = ref s (path_of i names)

-- a core item of a space: an index, or the name of an export of a core instance
abbrev pub core_item_leaf : Space → Index → Option (Bor Text) → Leaf
core_item_leaf s i name = ref s (path_of i (lone_name name))

-- ior(k) = idx | "(" k idx text* ")" (Alias Definitions)
abbrev pub item_or_index : Space → Rule
item_or_index s = index_or_item (space_word s) s

-- cref(k), which has an older form, and nref(k), which has none (Canonical Definitions)
abbrev pub prefixed_core_item : Bool → Space → Rule
prefixed_core_item true s = core_reference (space_word s) s
prefixed_core_item false s = index_or_core (space_word s) s

-- what stands behind the word of a core item, as `memory` has it: idx | "(" "core" k idx text? ")", or in the older form idx text (Canonical
-- Definitions)
abbrev pub core_contents : Space → Rule
core_contents s = either is_reference
    (wraps path (pair (reference s outward) (by_test legacy (either (next strings) (keeps a_text) nothing) nothing)))
    (group (core_words (space_word s) s))

-- of a memory it is the row of the format
pub of_memory : core_contents space.CoreMemory ≡ memory_reference
of_memory = refl
