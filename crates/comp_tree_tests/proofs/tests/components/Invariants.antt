use Rattle.std.proofs.Common.{List}
use Rattle.comp_model.specs.CoreModules.{CoreModule}
use Rattle.comp_tree.specs.Marks.{marks_of}
use Rattle.comp_tree.specs.OriginMarks.{FewPlaces, recorded}
use Rattle.comp_tree_tests.proofs.tests.components.Given as goal

abbrev pub invariant-loop : goal.invariant-loop
invariant-loop l = (C : List CoreModule) → FewPlaces (recorded (marks_of C l.scope))
