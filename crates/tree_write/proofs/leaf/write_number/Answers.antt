use Rattle.tree_write.proofs.Small.{small_primitive, small_value, small_flag}
use Rattle.tree_write.proofs.leaf.write_number.Goals as goal

pub returns-in-PrimitiveByte : goal.returns-in-PrimitiveByte
returns-in-PrimitiveByte g c = λ h. rw c.in-PrimitiveByte.is (c.write_small.ensures (small_primitive c.args.field.now c.args.value h c.in-PrimitiveByte.is))

pub returns-in-Value : goal.returns-in-Value
returns-in-Value g c = λ h. rw c.in-Value.is (c.write_small-in-Value.ensures (small_value c.args.field.now c.args.value h c.in-Value.is))

pub returns-in-Flag : goal.returns-in-Flag
returns-in-Flag g c = λ h. rw c.in-Flag.is (c.write_small-in-Flag.ensures (small_flag c.args.field.now c.args.value h c.in-Flag.is))
