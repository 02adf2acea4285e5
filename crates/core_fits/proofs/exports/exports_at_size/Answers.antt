use Rattle.comp_model.specs.declared.Space.TheVariants.{CoreFunc, CoreTable, CoreMemory, CoreGlobal}
use Rattle.core_fits.proofs.exports.exports_at_size.Goals as goal

pub returns-in-Func : goal.returns-in-Func
returns-in-Func c = rw (c.in-Func.is, ← c.as_slice.ensures.value) (c.inline_size.ensures CoreFunc)

pub returns-in-Table : goal.returns-in-Table
returns-in-Table c = rw (c.in-Table.is, ← c.as_slice-in-Table.ensures.value) (c.inline_size-in-Table.ensures CoreTable)

pub returns-in-Memory : goal.returns-in-Memory
returns-in-Memory c = rw (c.in-Memory.is, ← c.as_slice-in-Memory.ensures.value) (c.inline_size-in-Memory.ensures CoreMemory)

pub returns-in-Global : goal.returns-in-Global
returns-in-Global c = rw (c.in-Global.is, ← c.as_slice-in-Global.ensures.value) (c.inline_size-in-Global.ensures CoreGlobal)
