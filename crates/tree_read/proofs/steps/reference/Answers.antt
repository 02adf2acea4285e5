use Rattle.std.proofs.Common.{sym, subst}
use Rattle.text_rules.specs.Rule.{reference}
use Rattle.text_table.specs.Code.{reach_of}
use Rattle.comp_model.specs.Model as m
use Rattle.comp_tree.specs.Model.{index_of}
use Rattle.text_rules.specs.Makes.{a_leaf}
use Rattle.tree_build.specs.Adds.{Adds}
use Rattle.tree_read.specs.Comes.{Reads}
use Rattle.tree_read.proofs.Formers.{reference_reads, reference_stops}
use Rattle.tree_read.proofs.steps.reference.Goals as goal

pub returns-in-Ok : goal.returns-in-Ok
returns-in-Ok c =
    subst (λ r. Reads (reference c.args.space (reach_of c.args.reach)) r c.args.reader.now c.index.new.self c.args.scratch.now c.reference.new.self) (sym c.stored.ensures)
    (reference_reads c.args.space (reach_of c.args.reach) c.in-Ok.index c.reference.result c.args.reader.now c.index.new.self c.args.scratch.now c.reference.new.self c.in-Ok.ensures
    (subst (λ w. Adds c.reference.result c.args.scratch.now c.reference.new.self (λ fs cs. a_leaf (m.ref c.args.space (index_of w c.in-Ok.index)))) c.tree_reach.ensures c.reference.ensures))

pub returns-in-Err : goal.returns-in-Err
returns-in-Err c = reference_stops c.args.space (reach_of c.args.reach) c.in-Err.fault c.args.reader.now c.index.new.self c.in-Err.ensures
