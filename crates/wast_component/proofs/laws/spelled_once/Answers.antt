use Rattle.wast_component.proofs.Exact.{spelled_once}
use Rattle.wast_component.proofs.laws.spelled_once.Goals as goal

pub returns : goal.returns
returns c = record { once = spelled_once }
