-- Which rules leave leaves of some shapes, one each, and nothing else among them: a test that computes.
use Rattle.std.specs.Prelude.{◌≡◌, Bool, true, ◌&&◌, not, nat_le, List}
use Rattle.std.specs.List.{list_all}
use Rattle.comp_model.specs.Rows.{Shape, is_module}
use Rattle.wast_grammar.specs.Clear.{clear}
use Rattle.wast_grammar.specs.Grammar.{whole}
use Rattle.wast_grammar.specs.OfText.{is_fresh}
use Rattle.wast_grammar.specs.Shape.{sound}
use Rattle.text_rules.specs.LeafTests.{fits_leaves}
use Rattle.text_rules.specs.Measure.{size, most}
use Rattle.text_rules.specs.Rule.{Rule, reads}
use Rattle.text_rules.specs.Tests.{all}

-- Whether a rule leaves leaves of these shapes. None of them is a core module, whose names come later.
abbrev pub leaves_fit : Rule → List Shape → Bool
leaves_fit r ss = is_fresh (reads r) && (all r (λ x. fits_leaves x.leaves ss) && list_all (λ s. not (is_module s)) ss)

-- whether a reader takes a rule
abbrev pub is_readable : Rule → Bool
is_readable r = sound (reads r) && nat_le (size r) most

-- What is asked of the rule of a type: a reader takes it, it is read from left to right, its tests decide, and it leaves leaves of these shapes. So the
-- checker computes.
pub record ReadsAs (r : Rule) (ss : List Shape) : Type 0 where
  pub taken : is_readable r ≡ true
  pub read_on : sound (reads r) ≡ true
  pub decided : clear (whole (reads r)) ≡ true
  pub shaped : leaves_fit r ss ≡ true
