use Rattle.comp_wire.specs.Table as t
use Rattle.wire_read.specs.Stops.{stop_of}
use Rattle.wire_read.proofs.NodeParts.{each_refused}
use Rattle.wire_read.proofs.NodeReads.{each_read}
use Rattle.wire_read.proofs.common.read_named_types.Goals as goal

pub returns-in-Err : goal.returns-in-Err
returns-in-Err c = λ left. each_refused t.named_types left c.in-Some.count _ _ (stop_of c.in-Err.fault) c.in-Some.ensures (c.in-Err.ensures left)

pub returns-in-Ok : goal.returns-in-Ok
returns-in-Ok c = λ left. each_read t.named_types left c.in-Some.count _ _ _ c.in-Ok.rows c.in-Some.ensures (c.in-Ok.ensures left)
