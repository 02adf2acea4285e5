use Rattle.std.proofs.Common.{sym, ◌∙◌}
use Rattle.tree_print.proofs.Asked.{text_asked}
use Rattle.tree_print.proofs.has_text.has_text.Goals as goal

pub returns : goal.returns
returns c = c.definitions_serve.ensures ∙ sym (text_asked c.args.scope.now)
