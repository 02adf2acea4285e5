use Rattle.comp_compose.proofs.Refusals.{exactly}
use Rattle.comp_compose.proofs.from_plan.compose.Goals as goal

pub returns-clause-exact : goal.returns-clause-exact
returns-clause-exact c = exactly c.args.plan.now (λ v. v.items) c.compose_plan.result c.compose_plan.ensures
