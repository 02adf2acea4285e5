use Rattle.std.proofs.Common.{◌++◌, ◌∙◌, ap, sym}
use Rattle.comp_tree.specs.Model.{joined}
use Rattle.tree_build.specs.Held.{loose}
use Rattle.tree_build.proofs.LeafKinds.{no_text}
use Rattle.tree_build.proofs.Numbering.{texts_behind}
use Rattle.tree_build.proofs.Prefixes.{append_nil}
use Rattle.tree_build.proofs.numbered.push_text.Goals as goal

pub returns-in_default : goal.returns-in_default
returns-in_default c = λ fs cs. sym (append_nil (joined c.args.pieces.now.items)) ∙ ap (λ t. joined c.args.pieces.now.items ++ t) (no_text fs cs c.args.leaf.now c.in_default.not-Text c.in_default.not-Pieces)

pub returns-in-Pieces : goal.returns-in-Pieces
returns-in-Pieces c = λ fs cs. texts_behind c.extend_from_slice.result c.args.pieces.now.items c.extend_from_slice.new.self.items c.in-Pieces.texts.now (loose fs cs c.args.leaf.now) c.extend_from_slice.ensures.items (ap (loose fs cs) c.in-Pieces.is)
