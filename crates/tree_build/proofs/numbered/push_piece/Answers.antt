use Rattle.tree_build.proofs.Numbering.{text_behind}
use Rattle.tree_build.proofs.numbered.push_piece.Goals as goal

pub returns-in-Ok : goal.returns-in-Ok
returns-in-Ok c = text_behind c.args.pieces.now.items c.push.new.self.items c.args.text c.in-Ok.ensures.items
