use Rattle.comp_model.proofs.Tests.{same_row-true, same_space-true, same_origin-true}
use Rattle.comp_model.proofs.laws.tests_decide.Goals as goal

pub returns-clause-rows : goal.returns-clause-rows
returns-clause-rows c = same_row-true

pub returns-clause-spaces : goal.returns-clause-spaces
returns-clause-spaces c = same_space-true

pub returns-clause-origins : goal.returns-clause-origins
returns-clause-origins c = same_origin-true
