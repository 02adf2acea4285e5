use Rattle.std.proofs.Common.{sym, subst}
use Rattle.wast_grammar.specs.Classes.{closing}
use Rattle.text_rules.specs.Rule.{also, after, skipping}
use Rattle.text_table.specs.Code.{add_of}
use Rattle.tree_read.specs.Comes.{Reads, as_result}
use Rattle.tree_read.specs.Parts.{before_last}
use Rattle.tree_read.proofs.Formers.{all_read, also_reads, closes_reads, skipping_reads}
use Rattle.tree_read.proofs.parts.read_last.Goals as goal

pub returns-in-Add : goal.returns-in-Add
returns-in-Add c = λ y s p h.
    subst (λ x. Reads (before_last x y) (as_result c.made.result) s c.args.reader.now p c.add.new.scratch) (sym c.in-Add.is)
    (subst (λ r. Reads (also y (add_of c.in-Add.unwritten)) r s c.args.reader.now p c.add.new.scratch) (sym c.made.ensures)
    (also_reads y (add_of c.in-Add.unwritten) all_read c.add.result s c.args.reader.now p c.args.scratch.now c.add.new.scratch h c.add.ensures))

pub returns-in-Closing : goal.returns-in-Closing
returns-in-Closing c = λ y s p h.
    subst (λ x. Reads (before_last x y) (as_result c.answered.result) s c.take.new.self p c.args.scratch.now) (sym c.in-Closing.is)
    (subst (λ r. Reads (after y closing) r s c.take.new.self p c.args.scratch.now) (sym c.answered.ensures)
    (closes_reads y all_read c.take.result s c.args.reader.now c.take.new.self p c.args.scratch.now h c.take.ensures))

pub returns-in-Skipping : goal.returns-in-Skipping
returns-in-Skipping c = λ y s p h.
    subst (λ x. Reads (before_last x y) (as_result c.answered-in-Skipping.result) s c.skip_rest.new.reader p c.args.scratch.now) (sym c.in-Skipping.is)
    (subst (λ r. Reads (skipping y) r s c.skip_rest.new.reader p c.args.scratch.now) (sym c.answered-in-Skipping.ensures)
    (skipping_reads y all_read c.skip_rest.result s c.args.reader.now c.skip_rest.new.reader p c.args.scratch.now h c.skip_rest.ensures))
