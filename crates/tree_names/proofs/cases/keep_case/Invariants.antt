use Rattle.std.proofs.Common.{◌-◌, ◌++◌, List, drop, length}
use Rattle.comp_model.specs.Core.{Id}
use Rattle.comp_model.specs.CoreModules.{CoreModule}
use Rattle.comp_scopes.specs.Rule.{case_ids}
use Rattle.comp_tree.specs.Lists.{listed}
use Rattle.tree_names.specs.Cases.{CasesHold}
use Rattle.tree_names.proofs.cases.keep_case.Given as goal

abbrev pub invariant-loop-behind : goal.invariant-loop-behind
invariant-loop-behind l = (C : List CoreModule) (earlier : List Id) → CasesHold l.initial.cases earlier → CasesHold l.cases (case_ids (listed C (drop (length l.leaves - l.behind) l.leaves)) ++ earlier)
