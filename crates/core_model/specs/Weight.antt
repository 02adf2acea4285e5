-- The weight of a core module, by which it is limited: 32 for each field, inline export, parameter, result, local and instruction, and the lengths of its texts, ids and labels.
use Rattle.std.specs.Prelude.{ℕ, ◌+◌, ◌*◌, List, length, Option, Some, None}
use Rattle.comp_model.specs.Weight.{weight_of_id, weight_of_label, weight_of_all}
use Rattle.comp_model.specs.CoreModules.{Naming, Local, FunctionType, TypeDef, function, other_type, Entity, func, Inline, Field, type_field, import_field, func_field, table_field, memory_field, global_field, export_field, other_field, CoreModule}
use Rattle.comp_model.specs.Core.{Text}

abbrev pub weight_of_naming : Naming → ℕ
weight_of_naming n = weight_of_id n.id + weight_of_label n.label

-- a parameter or a local
abbrev pub weight_of_local : Local → ℕ
weight_of_local l = 32 + weight_of_naming l.naming

abbrev pub weight_of_type : FunctionType → ℕ
weight_of_type t = weight_of_all weight_of_local t.params + 32 * length t.results

abbrev pub weight_of_def : TypeDef → ℕ
weight_of_def (function t) = weight_of_type t
weight_of_def (other_type o) = 0

abbrev pub weight_of_signature : Option FunctionType → ℕ
weight_of_signature None = 0
weight_of_signature (Some t) = weight_of_type t

abbrev pub weight_of_entity : Entity → ℕ
weight_of_entity (func u) = weight_of_signature u.signature
weight_of_entity _ = 0

abbrev pub weight_of_import : Option (Text × Text) → ℕ
weight_of_import None = 0
weight_of_import (Some p) = length p.0 + length p.1

-- inline exports, and the texts of an inline import
abbrev pub weight_of_inline : Inline → ℕ
weight_of_inline i = weight_of_all (λ x. 32 + length x) i.exports + weight_of_import i.imported

abbrev pub weight_of_field : Field → ℕ
weight_of_field (type_field o n d) = 32 + weight_of_naming n + weight_of_def d
weight_of_field (import_field o m x n e) = 32 + length m + length x + weight_of_naming n + weight_of_entity e
weight_of_field (func_field o n i u ls is) =
    32 + weight_of_naming n + weight_of_inline i + weight_of_signature u.signature + weight_of_all weight_of_local ls + 32 * length is
weight_of_field (table_field o n i l v) = 32 + weight_of_naming n + weight_of_inline i
weight_of_field (memory_field o n i l) = 32 + weight_of_naming n + weight_of_inline i
weight_of_field (global_field o n i v m is) = 32 + weight_of_naming n + weight_of_inline i + 32 * length is
weight_of_field (export_field o x s i) = 32 + length x
weight_of_field (other_field o) = 32

-- what a core module adds to the leaf that holds it
abbrev pub core_weight : List Field → ℕ
core_weight fs = weight_of_all weight_of_field fs

-- the weight of the fields of a core module, whose own id and label weigh with the definition that holds it
abbrev pub module_weight : CoreModule → ℕ
module_weight m = core_weight m.fields

-- the weight of a core module that is encoded alone
abbrev pub weight_alone : CoreModule → ℕ
weight_alone m = 32 + module_weight m + weight_of_naming m.naming
