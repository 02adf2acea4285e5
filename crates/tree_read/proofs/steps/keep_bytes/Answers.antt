use Rattle.std.proofs.Common.{Bor, List, ℕ}
use Rattle.std.proofs.Common.{sym, subst}
use Rattle.text_rules.specs.Rule.{keeps, a_string}
use Rattle.wast_grammar.specs.Grammar.{text}
use Rattle.tree_read.specs.Comes.{Reads}
use Rattle.tree_read.proofs.Formers.{kept_reads, kept_stops}
use Rattle.tree_read.proofs.steps.keep_bytes.Goals as goal

pub returns-in-Ok : goal.returns-in-Ok
returns-in-Ok c =
    subst (λ r. Reads (keeps a_string) r c.args.reader.now c.bytes.new.self c.args.scratch.now c.bytes_leaf.new.scratch) (sym c.stored.ensures)
    (kept_reads a_string (λ (t : Bor (List ℕ)). text t.now) c.in-Ok.bytes _ c.args.reader.now c.bytes.new.self c.args.scratch.now _ c.in-Ok.ensures c.bytes_leaf.ensures)

pub returns-in-Err : goal.returns-in-Err
returns-in-Err c = kept_stops _ a_string (λ (t : Bor (List ℕ)). text t.now) c.in-Err.fault c.args.reader.now c.bytes.new.self c.in-Err.ensures
