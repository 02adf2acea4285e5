use Rattle.std.proofs.Common.{Bor, List, ℕ}
use Rattle.std.proofs.Common.{sym, subst}
use Rattle.text_rules.specs.Rule.{keeps, a_label}
use Rattle.wast_grammar.specs.Grammar.{text}
use Rattle.tree_read.specs.Comes.{Reads}
use Rattle.tree_read.proofs.Formers.{kept_reads, kept_stops}
use Rattle.tree_read.proofs.steps.keep_label.Goals as goal

pub returns-in-Ok : goal.returns-in-Ok
returns-in-Ok c =
    subst (λ r. Reads (keeps a_label) r c.args.reader.now c.text.new.self c.args.scratch.now c.label.new.self) (sym c.stored.ensures)
    (kept_reads a_label (λ (t : Bor (List ℕ)). text t.now) c.in-Ok.text _ c.args.reader.now c.text.new.self c.args.scratch.now _ c.in-Ok.ensures c.label.ensures)

pub returns-in-Err : goal.returns-in-Err
returns-in-Err c = kept_stops _ a_label (λ (t : Bor (List ℕ)). text t.now) c.in-Err.fault c.args.reader.now c.text.new.self c.in-Err.ensures
