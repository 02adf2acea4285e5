-- Whether the fields of a core module are resolved: no reference in them is a name, and each type use has an index.
use Rattle.std.specs.Prelude.{Bool, true, false, ◌&&◌, List, Option, Some, None}
use Rattle.std.specs.List.{list_all}
use Rattle.comp_model.specs.Core.{CoreValue, ref_name}
use Rattle.comp_model.specs.CoreModules as c
use Rattle.comp_model.specs.CoreModules.{Index, number, named, FunctionType, TypeDef, TypeUse, Entity, Instruction, Field}

abbrev pub is_number : Index → Bool
is_number (number o n) = true
is_number (named x) = false

abbrev pub value_resolved : CoreValue → Bool
value_resolved (ref_name b r x) = false
value_resolved v = true

abbrev pub type_resolved : FunctionType → Bool
type_resolved t = list_all (λ p. value_resolved p.value) t.params && list_all value_resolved t.results

abbrev pub index_resolved : Option Index → Bool
index_resolved None = false
index_resolved (Some i) = is_number i

abbrev pub signature_resolved : Option FunctionType → Bool
signature_resolved None = true
signature_resolved (Some t) = type_resolved t

abbrev pub use_resolved : TypeUse → Bool
use_resolved u = index_resolved u.index && signature_resolved u.signature

abbrev pub def_resolved : TypeDef → Bool
def_resolved (c.function t) = type_resolved t
def_resolved (c.other_type o) = true

abbrev pub entity_resolved : Entity → Bool
entity_resolved (c.func u) = use_resolved u
entity_resolved (c.table l v) = value_resolved v
entity_resolved (c.memory l) = true
entity_resolved (c.global v m) = value_resolved v
entity_resolved (c.other_entity o) = true

abbrev pub instruction_resolved : Instruction → Bool
instruction_resolved (c.call i) = is_number i
instruction_resolved (c.local_get i) = is_number i
instruction_resolved (c.local_set i) = is_number i
instruction_resolved (c.local_tee i) = is_number i
instruction_resolved (c.global_get i) = is_number i
instruction_resolved (c.global_set i) = is_number i
instruction_resolved i = true

abbrev pub field_resolved : Field → Bool
field_resolved (c.type_field o n d) = def_resolved d
field_resolved (c.import_field o m x n e) = entity_resolved e
field_resolved (c.func_field o n i u ls is) = use_resolved u && (list_all (λ l. value_resolved l.value) ls && list_all instruction_resolved is)
field_resolved (c.table_field o n i l v) = value_resolved v
field_resolved (c.memory_field o n i l) = true
field_resolved (c.global_field o n i v m is) = value_resolved v && list_all instruction_resolved is
field_resolved (c.export_field o x s i) = is_number i
field_resolved (c.other_field o) = true

abbrev pub are_resolved : List Field → Bool
are_resolved fs = list_all field_resolved fs
