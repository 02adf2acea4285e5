use Rattle.std.proofs.Common.{◌∙◌}
use Rattle.tree_print.proofs.TreeBytes.{whole_bytes}
use Rattle.tree_print.proofs.text_bytes.texts_are_bytes.Goals as goal

pub returns : goal.returns
returns c = whole_bytes c.args.scope.now ∙ c.definitions_are_bytes.ensures
