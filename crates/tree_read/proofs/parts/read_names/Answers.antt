use Rattle.tree_read.proofs.FirstAndLast.{names_first, no_names_first}
use Rattle.tree_read.proofs.parts.read_names.Goals as goal

pub returns-in-Ok : goal.returns-in-Ok
returns-in-Ok c = names_first c.in-Ok.field-0 c.optional_label.result c.args.reader.now c.optional_id.new.reader c.optional_label.new.reader c.args.scratch.now c.optional_id.new.scratch c.optional_label.new.scratch c.in-Ok.ensures c.optional_label.ensures

pub returns-in-Err : goal.returns-in-Err
returns-in-Err c = no_names_first c.in-Err.fault c.args.reader.now c.optional_id.new.reader c.in-Err.ensures
