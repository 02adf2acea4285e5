use Rattle.comp_wire.proofs.NameBytes.{payload_parts}
use Rattle.comp_wire.proofs.laws.names_stand_in_subsections.Goals as goal

pub returns : goal.returns
returns c = record { parts = payload_parts }
