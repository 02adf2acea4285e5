use Rattle.tree_write.proofs.Puts.{last_put, more_put}
use Rattle.tree_write.proofs.numbers.+write_leb.Goals as goal

pub returns-then-value-limit : goal.returns-then-value-limit
returns-then-value-limit g t c = last_put c.args.limit c.args.value _ _ c.requires.least c.requires.most c.if-value-limit.true c.byte.ensures

pub returns-else-value-limit : goal.returns-else-value-limit
returns-else-value-limit g t c = more_put c.args.limit c.args.value _ _ _ c.requires.least c.requires.most c.if-value-limit.false c.write_leb.ensures c.byte-else-value-limit.ensures
