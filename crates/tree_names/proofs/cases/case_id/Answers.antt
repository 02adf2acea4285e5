use Rattle.std.proofs.Common.{ap}
use Rattle.comp_tree.specs.Model.{leaf_of}
use Rattle.tree_names.proofs.CasesSeen.{core_case}
use Rattle.tree_names.proofs.cases.case_id.Goals as goal

pub returns-in-Core : goal.returns-in-Core
returns-in-Core c = λ C ls. core_case C _ _ ls (ap (leaf_of C) c.in-Core.is)
