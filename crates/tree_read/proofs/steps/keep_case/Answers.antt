use Rattle.std.proofs.Common.{sym, subst}
use Rattle.text_rules.specs.Rule.{keeps, a_case}
use Rattle.wast_parser.specs.View.{id_view}
use Rattle.tree_read.specs.Comes.{Reads}
use Rattle.tree_read.proofs.Formers.{kept_reads, kept_stops}
use Rattle.tree_read.proofs.steps.keep_case.Goals as goal

pub returns-in-Ok : goal.returns-in-Ok
returns-in-Ok c =
    subst (λ r. Reads (keeps a_case) r c.args.reader.now c.id.new.self c.args.scratch.now c.case_id.new.self) (sym c.stored.ensures)
    (kept_reads a_case id_view c.in-Ok.id _ c.args.reader.now c.id.new.self c.args.scratch.now _ c.in-Ok.ensures c.case_id.ensures)

pub returns-in-Err : goal.returns-in-Err
returns-in-Err c = kept_stops _ a_case id_view c.in-Err.fault c.args.reader.now c.id.new.self c.in-Err.ensures
