use Rattle.std.proofs.Common.{sym, subst, ap, ◌∙◌}
use Rattle.wast_grammar.specs.Grammar.{both}
use Rattle.wast_grammar.specs.Read.{reads, andthen}
use Rattle.text_rules.specs.Makes.{a_leaf}
use Rattle.text_rules.specs.Rule.{outside, an_extern_name}
use Rattle.rule_runs.proofs.Makings.{makes_outside}
use Rattle.tree_read.specs.Comes.{Reads}
use Rattle.tree_read.specs.NameParts.{said, attributes_view, name_made}
use Rattle.tree_read.proofs.Added.{added, not_added}
use Rattle.tree_read.proofs.NameReads.{extern_fails, extern_reads, attributes_fail}
use Rattle.tree_read.proofs.names.read_extern_name.Goals as goal

pub returns-in-Err : goal.returns-in-Err
returns-in-Err c = not_added (outside an_extern_name) c.in-Err.fault c.args.reader.now c.plain_name.new.reader (extern_fails c.in-Err.fault c.args.reader.now c.plain_name.new.reader c.in-Err.ensures)

pub returns-in-Err-attributes : goal.returns-in-Err-attributes
returns-in-Err-attributes c = not_added (outside an_extern_name) c.in-Err-attributes.fault c.args.reader.now c.attributes.new.reader
    (attributes_fail c.in-Err-attributes.fault (said c.in-Ok.name) c.args.reader.now c.plain_name.new.reader c.attributes.new.reader c.in-Ok.ensures c.in-Err-attributes.ensures)

pub returns-in-Ok-attributes : goal.returns-in-Ok-attributes
returns-in-Ok-attributes c =
    subst (λ r. Reads (outside an_extern_name) r c.args.reader.now c.attributes.new.reader c.args.scratch.now c.add_name.new.scratch) (sym c.stored.ensures)
    (added (outside an_extern_name) (both (said c.in-Ok.name) (attributes_view c.in-Ok-attributes.attributes)) c.args.reader.now c.attributes.new.reader c.args.scratch.now c.add_name.new.scratch (λ fs cs. a_leaf (name_made c.in-Ok.name c.in-Ok-attributes.attributes)) c.add_name.result
    (extern_reads (said c.in-Ok.name) c.args.reader.now c.plain_name.new.reader c.in-Ok.ensures ∙ ap (λ o. andthen o (λ v q. reads (both (said c.in-Ok.name) v) q)) c.in-Ok-attributes.ensures)
    (λ fs cs. makes_outside an_extern_name (both (said c.in-Ok.name) (attributes_view c.in-Ok-attributes.attributes))) c.add_name.ensures)
