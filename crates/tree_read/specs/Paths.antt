-- References, with the names of exports behind them.
use Rattle.std.specs.Prelude.{◌≡◌, List, Result, Ok, Err, ◌++◌, map}
use Rattle.std.proofs.Common.{Bor}
use Rattle.comp_model.specs.Core.{Text}
use Rattle.comp_model.specs.Model as m
use Rattle.wast_grammar.specs.Stand.{Stand}
use Rattle.wast_grammar.specs.Grammar.{next, legacy}
use Rattle.wast_grammar.specs.ValueRows.{strings}
use Rattle.text_rules.specs.Made.{Made, empty, join}
use Rattle.text_rules.specs.Rule.{Rule, nothing, keeps, either, by_test, many, a_text}
use Rattle.text_table.specs.declared.rule.Steps.{Steps}
use Rattle.text_table.specs.declared.rule.Steps.TheVariants as steps
use Rattle.rule_runs.specs.Run.{run, done}
use Rattle.tree_read.specs.Comes.{Refuses}
use Rattle.tree_read.specs.declared.fault.Fault.{Fault}

abbrev pub texts : Rule
texts = many (next strings) (keeps a_text)

abbrev pub a_text_if : Rule
a_text_if = either (next strings) (keeps a_text) nothing

-- the names of exports that may follow an index
abbrev pub steps_rule : Steps → Rule
steps_rule steps.Many = texts
steps_rule steps.One = a_text_if
steps_rule steps.Legacy = by_test legacy a_text_if nothing

abbrev pub text_leaf : Bor Text → m.Leaf
text_leaf t = m.text t.now

abbrev pub texts_made : List (Bor Text) → Made
texts_made ts = record empty { leaves = map text_leaf ts }

-- these texts were read, and put behind others
pub record TextsRead (r : Rule) (s t : Stand) (xs ys : List (Bor Text)) : Type 0 where
  pub read : List (Bor Text)
  pub items : ys ≡ xs ++ read
  pub runs : (a : Made) → run r s a ≡ done (join a (texts_made read)) t

abbrev pub ReadsTexts : {X : Type 0} → Rule → Result X Fault → Stand → Stand → List (Bor Text) → List (Bor Text) → Type 0
ReadsTexts r (Ok x) s t xs ys = TextsRead r s t xs ys
ReadsTexts r (Err e) s t xs ys = (a : Made) → Refuses e t (run r s a)

-- these of the texts were read so far
pub record TextsSoFar (s t : Stand) (xs ys : List (Bor Text)) : Type 0 where
  pub read : List (Bor Text)
  pub items : ys ≡ xs ++ read
  pub runs : (a : Made) → run texts s a ≡ run texts t (join a (texts_made read))
