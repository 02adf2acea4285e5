-- Tests of the next tokens that tell a reference (Component Model, Explainer.md, Alias Definitions).
use Rattle.std.specs.Prelude.{[], ◌∷◌, codes}
use Rattle.comp_model.specs.declared.Space.{Space}
use Rattle.text_rules.specs.ReferenceRules.{space_word}
use Rattle.wast_grammar.specs.Classes.{keyword}
use Rattle.wast_grammar.specs.Grammar.{Test, form}
use Rattle.wast_grammar.specs.ReferenceRows.{indices, behind_index}

-- the word of a space, an index, and behind it `)` or a string
abbrev pub is_item_of : Space → Test
is_item_of s = form ((keyword (codes (space_word s)) ∷ []) ∷ indices ∷ behind_index ∷ [])
