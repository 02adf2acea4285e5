-- What a rule leaves, as the leaves of one node.
use Rattle.std.specs.Prelude.{◌≡◌, true, List}
use Rattle.comp_model.specs.CoreModules.{CoreModule}
use Rattle.comp_model.specs.Model.{Leaves}
use Rattle.comp_model.specs.Rows.{Shape}
use Rattle.comp_tree.specs.Lists.{listed}
use Rattle.comp_tree.specs.declared.tree.Leaf.{Leaf}
use Rattle.text_rules.specs.Made.{leaves_from}
use Rattle.text_rules.specs.Makes.{makes}
use Rattle.text_rules.specs.Rule.{Rule}
use Rattle.typed_nodes.specs.Fits.{FitLeaves}
use Rattle.wast_grammar.specs.Grammar.{Value}
use Rattle.typed_parts.specs.OfShapes.{leaves_fit}

-- the leaves that a rule leaves of a value
abbrev pub left_by : Rule → Value → Leaves
left_by r v = leaves_from (makes v r).leaves

-- Leaves in code that are those which a rule leaves of a value: beside some list of core modules they stand for them, and fit all shapes that the
-- rule's leaves fit. What a rule leaves of other kinds of parts is not among them.
abbrev pub AreLeavesOf : Rule → Value → List Leaf → Type 0
AreLeavesOf r v xs = (ss : List Shape) → leaves_fit r ss ≡ true → (C : List CoreModule) × (listed C xs ≡ left_by r v) × FitLeaves ss (left_by r v)
