use Rattle.comp_wire.proofs.OneComponent.{one_component}
use Rattle.comp_wire.proofs.laws.bytes_read_once.Goals as goal

pub returns : goal.returns
returns c = record { one_component = one_component }
