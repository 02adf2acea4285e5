use Rattle.std.proofs.Common.{◌≡◌, ℕ, ◌+◌, Bool, length, length-append, [], ◌∷◌, arith}
use Rattle.comp_model.specs.CoreModules as m
use Rattle.core_model.specs.Bytes.{mutable_byte, value_bytes, entity_bytes}
use Rattle.comp_model.specs.Core.{CoreValue}
use Rattle.core_syntax.specs.Measures.{capped}
use Rattle.core_syntax.specs.Fields.{use_of, limits_of, value_of, ref_value}
use Rattle.core_fits.proofs.items.import_item_size.Goals as goal

-- a byte, a value type and whether it is mutable
global-long : (v : CoreValue) (mutable : Bool) (k total : ℕ) → k ≡ length (value_bytes [] v) → total ≡ capped (2 + k) → total ≡ capped (length (entity_bytes [] (m.global v mutable)))
global-long v mutable k total a b = let d = length-append (value_bytes [] v) (mutable_byte mutable ∷ []) in omega (arith, a, b, d)

pub returns-in-Func : goal.returns-in-Func
returns-in-Func c = rw c.in-Func.is (c.import_size-in-Func.ensures (m.func (use_of c.in-Func.func.ty)) c.func_length.ensures)

pub returns-in-Table : goal.returns-in-Table
returns-in-Table c =
    rw c.in-Table.is (c.import_size-in-Table.ensures (m.table (limits_of c.in-Table.table.limits) (ref_value c.in-Table.table.ty)) (omega (arith, c.add.ensures, c.table_length.ensures)))

pub returns-in-Memory : goal.returns-in-Memory
returns-in-Memory c =
    rw c.in-Memory.is (c.import_size-in-Memory.ensures (m.memory (limits_of c.in-Memory.memory.limits)) (omega (arith, c.add-in-Memory.ensures, c.limits_length.ensures)))

pub returns-in-Global : goal.returns-in-Global
returns-in-Global c =
    rw c.in-Global.is (c.import_size-in-Global.ensures (m.global (value_of c.in-Global.global.ty) c.in-Global.global.mutable) (global-long _ _ _ _ c.value_length.ensures c.add-in-Global.ensures))
