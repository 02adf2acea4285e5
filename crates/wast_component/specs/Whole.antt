-- What the tokens of a text spell: a component, in text or in binary form, or a core module.
use Rattle.std.specs.Prelude.{◌≡◌, ℕ, List, Bool, cond, None, ⊤}
use Rattle.comp_model.specs.Model.{Scope, kind_of, Leaf, Leaves, Def, define, row, ◌▸◌, no_leaf, scope, text}
use Rattle.comp_model.specs.declared.row.ScopeKind.TheVariants as kinds
use Rattle.comp_model.specs.declared.row.Row.TheVariants as rows
use Rattle.comp_model.specs.RowNumbers.{same_row}
use Rattle.comp_weight.specs.FromText.{FromText}
use Rattle.comp_expanded.specs.OfText.{OfText}
use Rattle.text_rules.specs.FieldRules.{wat_item}
use Rattle.text_rules.specs.Makes.{makes}
use Rattle.text_rules.specs.Rule.{reads}
use Rattle.text_rules.specs.Whole.{one_definition}
use Rattle.wast_grammar.specs.Answers.{Fronts, first_deep}
use Rattle.wast_grammar.specs.Grammar.{Grammar, Value, whole}
use Rattle.wast_grammar.specs.Read.{start_of}
use Rattle.wast_grammar.specs.Spells.{checks}
use Rattle.wast_grammar.specs.Stand.{Stand}
use Rattle.wast_grammar.specs.Tokens.{Text}
use Rattle.wast_parser.specs.View.{IsTextOf}

-- what a text is
pub data Whole : Type 0 where
  -- a component in text form
  in_text : Scope → Whole
  -- one in binary form: its strings, one behind the other
  in_binary : List ℕ → Whole
  -- a core module: the offset of the word `module`, or 0 for fields alone
  a_module : ℕ → Whole

-- by the leaves of a component, which are its scope or its strings alone
abbrev pub of_leaf : ℕ → Leaf → Whole
of_leaf offset (scope s) = in_text s
of_leaf offset (text t) = in_binary t
of_leaf offset l = a_module offset

abbrev pub of_leaves : ℕ → Leaves → Whole
of_leaves offset (l ▸ no_leaf) = of_leaf offset l
of_leaves offset ls = a_module offset

-- by the one definition that the rules make of a text: all that is no component is a core module (`text_is_component`)
abbrev pub whole_of : Def → Whole
whole_of (define names (row t ls)) = cond (same_row t rows.Component) (of_leaves names.offset ls) (a_module names.offset)

-- all the tokens of a text, by the row of a text
abbrev pub wat : Grammar
wat = whole (reads wat_item)

-- The tokens of the text spell this, and no checked item of it is too deep. That they spell nothing else is `spelled_once`.
pub record SpellsWhole (bytes : List ℕ) (legacy : Bool) (w : Whole) : Type 0 where
  pub tokens : Text
  pub cut : IsTextOf bytes legacy tokens
  pub end : Stand
  pub value : Value
  pub front : Fronts wat (start_of tokens) end value
  pub shallow : first_deep (checks front.0) ≡ None
  pub definition : Def
  pub made : makes value wat_item ≡ one_definition definition
  pub is : whole_of definition ≡ w

-- a component of a text: it is written by the table of rows, with names where the text format has them, short numerals and ids of the text
abbrev pub IsOfText : Whole → Type 0
IsOfText (in_text s) = (kind_of s ≡ kinds.Component) × FromText s × OfText s
IsOfText (in_binary t) = ⊤
IsOfText (a_module n) = ⊤
