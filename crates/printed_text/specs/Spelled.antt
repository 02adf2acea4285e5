-- What the tokens of a text spell: a component, whose text it is.
use Rattle.std.specs.Prelude.{◌≡◌, ℕ, List, [], map, false, Option, None}
use Rattle.comp_model.specs.CoreModules.{CoreModule}
use Rattle.comp_model.specs.Covered.{Uncovered, first_uncovered}
use Rattle.comp_model.specs.Weight.{weight}
use Rattle.comp_model.specs.Model as m
use Rattle.comp_model.specs.Model.{Scope, Def, Names, define, row, no_leaf, ◌▸◌}
use Rattle.comp_model.specs.declared.row.Row.TheVariants as rows
use Rattle.comp_scopes.specs.Encoding.{Encoding}
use Rattle.comp_scopes.specs.Rule.{ScopeRule}
use Rattle.comp_scopes.specs.Form.{form}
use Rattle.text_rules.specs.FieldRules.{wat_item}
use Rattle.text_rules.specs.Makes.{makes}
use Rattle.text_rules.specs.Rule.{reads}
use Rattle.text_rules.specs.Whole.{one_definition, IsComponent}
use Rattle.wast_grammar.specs.Answers.{Fronts}
use Rattle.wast_grammar.specs.Grammar.{Grammar, Value, whole}
use Rattle.wast_grammar.specs.Read.{start_of, open_at}
use Rattle.wast_grammar.specs.Spells.{checks}
use Rattle.wast_grammar.specs.Stand.{Stand}
use Rattle.wast_grammar.specs.Tokens.{Text}
use Rattle.wast_parser.specs.View.{IsTextOf}
use Rattle.print_table.specs.Depths.{checked_depths}
use Rattle.printed_text.specs.Source.{IsSource}

-- all the tokens of a text
abbrev pub wat : Grammar
wat = whole (reads wat_item)

-- The text is cut into tokens that spell a component without names, with numerals alone, whose binary form is the one given; it is a component of
-- the text format, with no form that the model lacks.
pub record Prints (text : List ℕ) (binary : Scope) : Type 0 where
  pub tokens : Text
  pub cut : IsTextOf text false tokens
  pub end : Stand
  pub value : Value
  pub front : Fronts wat (start_of tokens) end value
  -- how many parentheses are open in front of each part that is checked for its depth
  pub depths : map open_at (checks front.0) ≡ checked_depths binary
  pub names : Names
  pub source : Scope
  pub made : makes value wat_item ≡ one_definition (define names (row rows.Component (m.scope source ▸ no_leaf)))
  pub component : IsComponent (define names (row rows.Component (m.scope source ▸ no_leaf)))
  pub numerals : IsSource source binary
  pub rule : (e : Encoding) → ScopeRule e [] source
  pub formed : (e : Encoding) → form e [] source ≡ binary
  -- whatever core modules weigh, and whatever form of them is never written, since there are none
  pub weighs : (f g : CoreModule → ℕ) → weight f source ≡ weight g binary
  pub covered : (f g : CoreModule → Option Uncovered) → first_uncovered g binary ≡ None → first_uncovered f source ≡ None
