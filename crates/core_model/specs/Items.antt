-- The items of a core module by space, and what an index means (WebAssembly, text format, Indices).
use Rattle.std.specs.Prelude.{ℕ, suc, Bool, false, cond, not, ◌&&◌, List, [], ◌∷◌, ◌++◌, map, filter, Option, Some, None, option_map, unwrap_or, is_some}
use Rattle.comp_model.specs.declared.Space.{Space}
use Rattle.comp_model.specs.declared.Space.TheVariants.{CoreFunc, CoreTable, CoreMemory, CoreGlobal, CoreType}
use Rattle.comp_model.specs.Core.{Text, Id}
use Rattle.comp_model.specs.Spaces.{same_space, bears}
use Rattle.comp_model.specs.CoreModules.{Index, number, named, Naming, Entity, func, table, memory, global, other_entity, Field, type_field, import_field, func_field, table_field, memory_field, global_field, export_field, other_field}

-- the offset of a field's first word
abbrev pub offset_of : Field → ℕ
offset_of (type_field o n d) = o
offset_of (import_field o m x n e) = o
offset_of (func_field o n i u ls is) = o
offset_of (table_field o n i l v) = o
offset_of (memory_field o n i l) = o
offset_of (global_field o n i v m is) = o
offset_of (export_field o x s i) = o
offset_of (other_field o) = o

abbrev pub no_naming : Naming
no_naming = record { id = None; label = None }

-- the id and the label that a field gives its item
abbrev pub naming_of : Field → Naming
naming_of (type_field o n d) = n
naming_of (import_field o m x n e) = n
naming_of (func_field o n i u ls is) = n
naming_of (table_field o n i l v) = n
naming_of (memory_field o n i l) = n
naming_of (global_field o n i v m is) = n
naming_of (export_field o x s i) = no_naming
naming_of (other_field o) = no_naming

-- the inline exports of a field
abbrev pub inline_exports : Field → List Text
inline_exports (func_field o n i u ls is) = i.exports
inline_exports (table_field o n i l v) = i.exports
inline_exports (memory_field o n i l) = i.exports
inline_exports (global_field o n i v m is) = i.exports
inline_exports _ = []

-- the module and the name from which a field imports its item, written or inline
abbrev pub import_names : Field → Option (Text × Text)
import_names (import_field o m x n e) = Some (m, x)
import_names (func_field o n i u ls is) = i.imported
import_names (table_field o n i l v) = i.imported
import_names (memory_field o n i l) = i.imported
import_names (global_field o n i v m is) = i.imported
import_names _ = None

-- the entity that a field imports or defines
abbrev pub entity_of : Field → Option Entity
entity_of (import_field o m x n e) = Some e
entity_of (func_field o n i u ls is) = Some (func u)
entity_of (table_field o n i l v) = Some (table l v)
entity_of (memory_field o n i l) = Some (memory l)
entity_of (global_field o n i v m is) = Some (global v m)
entity_of _ = None

abbrev pub is_import : Field → Bool
is_import f = is_some (import_names f)

-- a func, table, memory or global that is no import
abbrev pub is_definition : Field → Bool
is_definition f = not (is_import f) && is_some (entity_of f)

-- the space of an entity
abbrev pub space_of_entity : Entity → Option Space
space_of_entity (func u) = Some CoreFunc
space_of_entity (table l v) = Some CoreTable
space_of_entity (memory l) = Some CoreMemory
space_of_entity (global v m) = Some CoreGlobal
space_of_entity (other_entity o) = None

-- the space in which a field declares its item
abbrev pub declares : Field → Option Space
declares (type_field o n d) = Some CoreType
declares (import_field o m x n e) = space_of_entity e
declares (func_field o n i u ls is) = Some CoreFunc
declares (table_field o n i l v) = Some CoreTable
declares (memory_field o n i l) = Some CoreMemory
declares (global_field o n i v m is) = Some CoreGlobal
declares (export_field o x s i) = None
declares (other_field o) = None

abbrev pub is_space : Space → Option Space → Bool
is_space s None = false
is_space s (Some t) = same_space s t

-- the fields that declare an item of the space, in order; the place of one is the index of its item
abbrev pub items_in : Space → List Field → List Field
items_in s fs = filter (λ f. is_space s (declares f)) fs

-- the ids of the items of the space
abbrev pub ids_in : Space → List Field → List (Option Id)
ids_in s fs = map (λ f. (naming_of f).id) (items_in s fs)

-- the first place at which the id stands
abbrev pub place_of : Id → List (Option Id) → Option ℕ
place_of x [] = None
place_of x (y ∷ ys) = cond (bears x y) (Some 0) (option_map suc (place_of x ys))

-- what an index means in a space of these ids: a number for itself, a name for the place at which it stands
abbrev pub meant : List (Option Id) → Index → Option ℕ
meant ids (number o n) = Some n
meant ids (named x) = place_of x ids

-- the number that stands for an index in the binary; a name that means nothing counts as 0
abbrev pub index_of : List (Option Id) → Index → ℕ
index_of ids i = unwrap_or (meant ids i) 0

-- what `g` makes of each element and those before it
abbrev pub each_behind : {A B : Type 0} → (List A → A → B) → List A → List A → List B
each_behind g before [] = []
each_behind g before (x ∷ xs) = g before x ∷ each_behind g (before ++ x ∷ []) xs
