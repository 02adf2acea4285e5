use Rattle.comp_wire.proofs.Room.{written_is_read}
use Rattle.comp_wire.proofs.laws.written_bytes_are_read.Goals as goal

pub returns : goal.returns
returns c = record { read = written_is_read }
