use Rattle.std.proofs.Common.{subst, sym}
use Rattle.comp_model.specs.declared.row.Row.TheVariants as rows
use Rattle.text_rules.specs.Forms.{of_row}
use Rattle.text_rules.specs.Rule.{a_row}
use Rattle.text_rules.specs.ValueRules.{prim}
use Rattle.tree_read.specs.Comes.{Reads}
use Rattle.tree_read.proofs.Formers.{also_reads, also_stops}
use Rattle.tree_read.proofs.told.read_primitive.Goals as goal

pub returns-in-Ok : goal.returns-in-Ok
returns-in-Ok c =
    subst (λ r. Reads (of_row rows.Primitive prim) r c.args.reader.now c.read_told.new.reader c.args.scratch.now c.row.new.self) (sym c.stored.ensures)
    (also_reads prim (a_row rows.Primitive) c.in-Ok.field-0 c.row.result c.args.reader.now c.read_told.new.reader c.args.scratch.now c.read_told.new.scratch c.row.new.self c.in-Ok.ensures c.row.ensures)

pub returns-in-Err : goal.returns-in-Err
returns-in-Err c = also_stops prim (a_row rows.Primitive) c.in-Err.fault c.args.reader.now c.read_told.new.reader c.in-Err.ensures
