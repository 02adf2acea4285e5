use Rattle.std.proofs.Common.{◌≡◌, List, drop}
use Rattle.comp_model.specs.Core.{Id}
use Rattle.comp_model.specs.CoreModules.{CoreModule}
use Rattle.comp_scopes.specs.Rule.{case_ids}
use Rattle.comp_scopes.specs.Unmet.{unmet_cases}
use Rattle.comp_tree.specs.Lists.{listed}
use Rattle.tree_names.specs.Cases.{CasesHold}
use Rattle.tree_names.proofs.cases.check_case.Given as goal

abbrev pub invariant-loop-leaf : goal.invariant-loop-leaf
invariant-loop-leaf l = (C : List CoreModule) (earlier : List Id) → CasesHold l.cases earlier → unmet_cases earlier (case_ids (listed C (drop l.leaf-index l.leaves))) ≡ unmet_cases earlier (case_ids (listed C l.leaves))
