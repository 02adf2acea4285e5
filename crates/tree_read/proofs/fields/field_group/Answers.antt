use Rattle.std.proofs.Common.{◌∙◌, ap, sym}
use Rattle.wast_grammar.specs.CoreRows.{field_group}
use Rattle.wast_grammar.specs.Grammar.{right}
use Rattle.wast_grammar.specs.Read.{read}
use Rattle.tree_read.specs.FieldParts.{closed, grouped}
use Rattle.tree_read.proofs.FieldsAdded.{gives_as}
use Rattle.tree_read.proofs.fields.field_group.Goals as goal

pub returns-in-Ok : goal.returns-in-Ok
returns-in-Ok g c =
    gives_as (grouped g.T.ParseView.view) c.parse_closed.result c.parse_closed.new.reader (read field_group c.args.reader.now) (closed right (read g.T.Parse.grammar c.enter_field.new.reader))
    (c.in-Ok.ensures ∙ ap (λ r. closed right (read r c.enter_field.new.reader)) (sym c.requires)) c.parse_closed.ensures
