use Rattle.wast_grammar.specs.CoreRows.{field_group}
use Rattle.wast_grammar.specs.Read.{read}
use Rattle.tree_read.specs.FieldParts.{grouped}
use Rattle.tree_read.proofs.FieldsAdded.{item_stored}
use Rattle.tree_read.proofs.fields.one_field.Goals as goal

pub returns-in-Ok : goal.returns-in-Ok
returns-in-Ok g c = item_stored (grouped g.T.ParseView.view) c.in-Ok.field c.push_item.result c.stored.result (read field_group c.args.reader.now) c.field_group.new.reader c.args.fields.now.items c.push_item.new.items.items c.stored.ensures c.in-Ok.ensures c.push_item.ensures
