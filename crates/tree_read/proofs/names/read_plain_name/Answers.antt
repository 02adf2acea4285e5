use Rattle.std.proofs.Common.{sym, subst}
use Rattle.text_rules.specs.Makes.{a_leaf}
use Rattle.comp_model.specs.Model as m
use Rattle.text_rules.specs.Rule.{outside, a_plain_name}
use Rattle.rule_runs.proofs.Makings.{makes_outside}
use Rattle.tree_read.specs.Comes.{Reads}
use Rattle.tree_read.specs.NameParts.{said}
use Rattle.tree_read.proofs.Added.{added, not_added}
use Rattle.tree_read.proofs.names.read_plain_name.Goals as goal

pub returns-in-Err : goal.returns-in-Err
returns-in-Err c = not_added (outside a_plain_name) c.in-Err.fault c.args.reader.now c.plain_name.new.reader c.in-Err.ensures

pub returns-in-Ok : goal.returns-in-Ok
returns-in-Ok c =
    subst (λ r. Reads (outside a_plain_name) r c.args.reader.now c.plain_name.new.reader c.args.scratch.now c.leaf.new.self) (sym c.stored.ensures)
    (added (outside a_plain_name) (said c.in-Ok.name) c.args.reader.now c.plain_name.new.reader c.args.scratch.now c.leaf.new.self (λ fs cs. a_leaf (m.text c.in-Ok.name.now)) c.leaf.result
    c.in-Ok.ensures (λ fs cs. makes_outside a_plain_name (said c.in-Ok.name)) c.leaf.ensures)
