use Rattle.std.proofs.Common.{◌∙◌, sym}
use Rattle.tree_read.proofs.Paths.{texts_start, one_more, text_falls, all_texts, texts_refused}
use Rattle.tree_read.proofs.path.read_texts.Goals as goal

pub texts-init : goal.texts-init
texts-init c = texts_start c.args.reader.now c.args.names.now.items

pub texts-smaller : goal.texts-smaller
texts-smaller c = text_falls c.texts.reader c.read_text.new.reader c.texts.names.items c.read_text.new.names.items c.in-Ok.ensures

pub texts-preserved : goal.texts-preserved
texts-preserved c = one_more c.args.reader.now c.texts.reader c.read_text.new.reader c.args.names.now.items c.texts.names.items c.read_text.new.names.items (sym c.is_string.ensures ∙ c.texts-test.true) c.texts.invariant c.in-Ok.ensures

pub returns-in-Err : goal.returns-in-Err
returns-in-Err c = texts_refused c.in-Err.fault c.args.reader.now c.texts.reader c.read_text.new.reader c.args.names.now.items c.texts.names.items (sym c.is_string.ensures ∙ c.texts-test.true) c.texts.invariant c.in-Err.ensures

pub returns : goal.returns
returns c = all_texts c.args.reader.now c.texts.reader c.args.names.now.items c.texts.names.items (sym c.is_string.ensures ∙ c.texts-test.false) c.texts.invariant
