use Rattle.tree_read.proofs.FieldsAdded.{numerals_there}
use Rattle.tree_read.proofs.fields.read_last_numerals.Goals as goal

pub returns : goal.returns
returns c = λ before last e h. numerals_there c.args.lists.now before last c.index-lists-number.result c.args.number c.as_slice.result.now c.index-lists-number.is e h c.as_slice.ensures.value c.read_numerals.ensures
