-- The parts of a key in code.
use Rattle.std.specs.Prelude.{List, map, Some}
use Rattle.type_keys.specs.Keys as key
use Rattle.type_keys.specs.Keys.{Part}
use Rattle.type_keys.specs.declared.key.KeyReach.{KeyReach}
use Rattle.type_keys.specs.declared.key.KeyReach.TheVariants as reach
use Rattle.type_keys.specs.declared.key.KeyPart.{KeyPart}
use Rattle.type_keys.specs.declared.key.KeyPart.TheVariants as part
use Rattle.type_keys.specs.declared.key.TypeKey.{TypeKey}

abbrev pub reach_of : KeyReach → key.KeyReach
reach_of reach.Outward = key.reach_outward
reach_of reach.Own = key.reach_own
reach_of (reach.Counted n) = key.reach_counted n
reach_of (reach.Named t n) = key.reach_named t.now n

abbrev pub part_of : KeyPart → Part
part_of part.End = key.part_end
part_of (part.Row n) = key.part_row n
part_of (part.Text t) = key.part_text t.now
part_of (part.Number n) = key.part_number n
part_of part.Absent = key.part_absent
part_of part.Present = key.part_present
part_of part.Nodes = key.part_nodes
part_of part.NoCase = key.part_case key.no_case
part_of (part.Case t n) = key.part_case (key.case_named t.now n)
part_of (part.Space n) = key.part_space n
part_of (part.Numeral n) = key.part_numeral n
part_of (part.Name r t n) = key.part_name (reach_of r) t.now n
part_of (part.Root n) = key.part_root n
part_of (part.RootName t n) = key.part_root_name t.now n
part_of (part.Export t) = key.part_export t.now
part_of (part.Inline n) = key.part_type (Some n)

abbrev pub parts_of : TypeKey → List Part
parts_of k = map part_of k.parts.items
