use Rattle.std.specs.Prelude.{⊤}
use Rattle.std.proofs.Common.{sym, ◌∙◌, [], ◌∷◌, Ok, codes}
use Rattle.wast_grammar.specs.Classes.{id, annotation}
use Rattle.wast_grammar.specs.Grammar.{next}
use Rattle.text_rules.specs.Rule.{nothing, keeps, an_id}
use Rattle.text_rules.specs.Forms.{label}
use Rattle.tree_read.proofs.Formers.{either_one, either_other, nothing_reads}
use Rattle.tree_read.proofs.own_names.optional_label.Goals as goal

pub returns-then-is_next : goal.returns-then-is_next
returns-then-is_next c = either_one (next (annotation (codes "(@name") ∷ [])) label nothing c.label.result c.args.reader.now c.label.new.reader c.args.scratch.now c.label.new.scratch (sym c.is_next.ensures ∙ c.if-is_next.true) c.label.ensures

pub returns-else-is_next : goal.returns-else-is_next
returns-else-is_next c = either_other {Y = ⊤} (next (annotation (codes "(@name") ∷ [])) label nothing (Ok tt) c.args.reader.now c.args.reader.now c.args.scratch.now c.args.scratch.now (sym c.is_next.ensures ∙ c.if-is_next.false) (nothing_reads {X = ⊤} tt c.args.reader.now c.args.scratch.now)
