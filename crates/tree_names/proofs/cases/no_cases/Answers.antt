use Rattle.std.proofs.Common.{is_some, ap}
use Rattle.comp_model.specs.declared.Space.TheVariants.{Ty}
use Rattle.tree_names.proofs.cases.no_cases.Goals as goal

pub returns : goal.returns
returns c = λ x. ap is_some (c.new.ensures Ty x)
