use Rattle.std.specs.Prelude.{⊤}
use Rattle.std.proofs.Common.{sym, subst, Err}
use Rattle.wast_grammar.specs.Classes.{closing}
use Rattle.text_rules.specs.Rule.{keeps, a_label, after}
use Rattle.text_rules.specs.Forms.{label}
use Rattle.tree_read.specs.Comes.{Reads}
use Rattle.tree_read.proofs.Refusals.{passed}
use Rattle.tree_read.proofs.Formers.{word_reads, word_stops, closes_reads, closes_stops}
use Rattle.tree_read.proofs.own_names.label.Goals as goal

pub returns-in_err-take : goal.returns-in_err-take
returns-in_err-take c =
    subst (λ r. Reads label r c.args.reader.now c.take.new.self c.args.scratch.now c.args.scratch.now) (sym (passed c.from_residual.result c.in_err-take.field-0.0 c.from_residual.ensures.1 (λ y k. k)))
    (word_stops ⊤ 8 (after (keeps a_label) closing) c.in_err-take.field-0.0 c.args.reader.now c.take.new.self c.in_err-take.ensures)

pub returns-in_err-keep_label : goal.returns-in_err-keep_label
returns-in_err-keep_label c =
    subst (λ r. Reads label r c.args.reader.now c.keep_label.new.reader c.args.scratch.now c.keep_label.new.scratch) (sym (passed c.from_residual-in_err-keep_label.result c.in_err-keep_label.field-0.0 c.from_residual-in_err-keep_label.ensures.1 (λ y k. k)))
    (word_reads {Y = ⊤} 8 (after (keeps a_label) closing) c.in_ok-take.field-0 (Err c.in_err-keep_label.field-0.0) c.args.reader.now c.take.new.self c.keep_label.new.reader c.args.scratch.now c.keep_label.new.scratch c.in_ok-take.ensures
    (closes_stops (keeps a_label) c.in_err-keep_label.field-0.0 c.take.new.self c.keep_label.new.reader c.in_err-keep_label.ensures))

pub returns : goal.returns
returns c =
    word_reads 8 (after (keeps a_label) closing) c.in_ok-take.field-0 c.take-2.result c.args.reader.now c.take.new.self c.take-2.new.self c.args.scratch.now c.keep_label.new.scratch c.in_ok-take.ensures
    (closes_reads (keeps a_label) c.in_ok-keep_label.field-0 c.take-2.result c.take.new.self c.keep_label.new.reader c.take-2.new.self c.args.scratch.now c.keep_label.new.scratch c.in_ok-keep_label.ensures c.take-2.ensures)
