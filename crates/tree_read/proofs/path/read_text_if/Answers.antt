use Rattle.std.proofs.Common.{◌∙◌, sym}
use Rattle.tree_read.proofs.Paths.{text_if, no_text_if}
use Rattle.tree_read.proofs.path.read_text_if.Goals as goal

pub returns-then-is_string : goal.returns-then-is_string
returns-then-is_string c = text_if c.read_text.result c.args.reader.now c.read_text.new.reader c.args.names.now.items c.read_text.new.names.items (sym c.is_string.ensures ∙ c.if-is_string.true) c.read_text.ensures

pub returns-else-is_string : goal.returns-else-is_string
returns-else-is_string c = no_text_if c.args.reader.now c.args.names.now.items (sym c.is_string.ensures ∙ c.if-is_string.false)
