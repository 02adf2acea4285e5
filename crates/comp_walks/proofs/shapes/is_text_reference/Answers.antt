use Rattle.comp_walks.specs.Lent.{texts_of}
use Rattle.comp_walks.proofs.TextTold.{number-passes, name-passes}
use Rattle.comp_walks.proofs.shapes.is_text_reference.Goals as goal

pub returns-in-Num : goal.returns-in-Num
returns-in-Num c = number-passes c.args.space _ _ _ (texts_of c.args.exports.now) c.in-Num.is

pub returns-in-Id : goal.returns-in-Id
returns-in-Id c = name-passes _ c.args.space _ _ (texts_of c.args.exports.now) c.in-Id.is c.is_of_text.ensures
