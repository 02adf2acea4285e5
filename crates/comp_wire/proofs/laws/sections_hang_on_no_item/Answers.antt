use Rattle.std.proofs.Common.{length}
use Rattle.comp_wire.proofs.Groups.{groups-by}
use Rattle.comp_wire.proofs.laws.sections_hang_on_no_item.Goals as goal

pub returns : goal.returns
returns c = record { grouped = groups-by length }
