use Rattle.std.specs.Prelude.{⊤}
use Rattle.std.proofs.Common.{◌∙◌, sym, subst, Ok}
use Rattle.text_rules.specs.Made.{empty}
use Rattle.text_rules.specs.Measure.{Fit}
use Rattle.text_rules.specs.FieldRules.{wat_item}
use Rattle.text_rules.proofs.TableReads.{text_fits}
use Rattle.rule_runs.specs.Run.{run}
use Rattle.tree_read.specs.Comes.{Reads, Refuses}
use Rattle.tree_read.specs.declared.fault.Fault.TheVariants as fault
use Rattle.tree_read.proofs.Ranking.{ran_so}
use Rattle.tree_read.proofs.WholeText.{not_ended, text_refused}
use Rattle.tree_read.proofs.text.to_the_end.Goals as goal

pub read-requires : goal.read-requires
read-requires c = record { fit = subst Fit (sym c.whole_text.ensures) text_fits }

pub returns-then-is_next : goal.returns-then-is_next
returns-then-is_next c = (subst (λ r. Reads {X = ⊤} r (Ok tt) c.args.reader.now c.read.new.reader c.args.scratch.now c.read.new.scratch) c.whole_text.ensures c.in-Done.ensures, sym c.is_next.ensures ∙ c.if-is_next.true)

pub returns-else-is_next : goal.returns-else-is_next
returns-else-is_next c =
    let h = subst (λ r. Reads {X = ⊤} r (Ok tt) c.args.reader.now c.read.new.reader c.args.scratch.now c.read.new.scratch) c.whole_text.ensures c.in-Done.ensures in
    not_ended wat_item c.args.reader.now c.read.new.reader _ _ (ran_so {X = ⊤} wat_item tt c.args.reader.now c.read.new.reader c.args.scratch.now c.read.new.scratch h) (sym c.is_next.ensures ∙ c.if-is_next.false)

pub returns-in-Parse : goal.returns-in-Parse
returns-in-Parse c = text_refused fault.Parse wat_item c.args.reader.now c.read.new.reader empty (subst (λ r. Refuses fault.Parse c.read.new.reader (run r c.args.reader.now empty)) c.whole_text.ensures (c.in-Parse.ensures empty))

pub returns-in-TooDeep : goal.returns-in-TooDeep
returns-in-TooDeep c = text_refused fault.TooDeep wat_item c.args.reader.now c.read.new.reader empty (subst (λ r. Refuses fault.TooDeep c.read.new.reader (run r c.args.reader.now empty)) c.whole_text.ensures (c.in-TooDeep.ensures empty))

pub returns-in-NoMemory : goal.returns-in-NoMemory
returns-in-NoMemory c = text_refused fault.NoMemory wat_item c.args.reader.now c.read.new.reader empty (subst (λ r. Refuses fault.NoMemory c.read.new.reader (run r c.args.reader.now empty)) c.whole_text.ensures (c.in-NoMemory.ensures empty))
