-- The types of a core module, written and added, and the type of a type use (WebAssembly, text format, Type Uses).
use Rattle.std.specs.Prelude.{ℕ, suc, ◌==◌, Bool, true, false, cond, not, ◌&&◌, List, [], ◌∷◌, ◌++◌, map, flat_map, slice_get, Option, Some, None, option_map, unwrap_or, is_some}
use Rattle.comp_model.specs.declared.Space.TheVariants.{CoreType}
use Rattle.comp_model.specs.Core as c
use Rattle.comp_model.specs.Core.{Id, CoreValue}
use Rattle.comp_model.specs.CoreModules.{Index, Local, FunctionType, TypeDef, function, other_type, TypeUse, Entity, func, Field, type_field, import_field, func_field}
use Rattle.core_model.specs.Items.{no_naming, items_in, ids_in, place_of, index_of}

-- the reference type of a name: a name that is unknown counts as a type without bytes
abbrev pub reference_to : Bool → Option ℕ → CoreValue
reference_to b None = c.other_value
reference_to b (Some i) = c.ref_index b i

-- a value type with its name resolved, among the ids of the types
abbrev pub resolved_value : List (Option Id) → CoreValue → CoreValue
resolved_value ids (c.ref_numeral b o i) = c.ref_index b i
resolved_value ids (c.ref_name b r x) = reference_to b (place_of x ids)
resolved_value ids v = v

-- a function type without names
pub record Signature : Type 0 where
  pub params : List CoreValue
  pub results : List CoreValue

abbrev pub empty_signature : Signature
empty_signature = record { params = []; results = [] }

-- a function type with its names resolved; the names of its parameters are no part of it
abbrev pub signature_of : List (Option Id) → FunctionType → Signature
signature_of ids t = record { params = map (λ p. resolved_value ids p.value) t.params; results = map (resolved_value ids) t.results }

abbrev pub defined : List (Option Id) → TypeDef → Option Signature
defined ids (function t) = Some (signature_of ids t)
defined ids (other_type o) = None

-- what a type use writes
abbrev pub written_signature : List (Option Id) → Option FunctionType → Signature
written_signature ids None = empty_signature
written_signature ids (Some t) = signature_of ids t

abbrev pub same_bool : Bool → Bool → Bool
same_bool true b = b
same_bool false b = not b

-- whether two value types without names are one
abbrev pub same_value : CoreValue → CoreValue → Bool
same_value c.i32 c.i32 = true
same_value c.i64 c.i64 = true
same_value c.f32 c.f32 = true
same_value c.f64 c.f64 = true
same_value c.v128 c.v128 = true
same_value (c.ref_func a) (c.ref_func b) = same_bool a b
same_value (c.ref_extern a) (c.ref_extern b) = same_bool a b
same_value (c.ref_index a i) (c.ref_index b j) = same_bool a b && i == j
same_value c.other_value c.other_value = true
same_value _ _ = false

abbrev pub same_values : List CoreValue → List CoreValue → Bool
same_values [] [] = true
same_values [] (w ∷ ws) = false
same_values (v ∷ vs) [] = false
same_values (v ∷ vs) (w ∷ ws) = same_value v w && same_values vs ws

-- equal parameters and results
abbrev pub same_signature : Signature → Signature → Bool
same_signature s t = same_values s.params t.params && same_values s.results t.results

-- whether a type is this one
abbrev pub is_type : Signature → Option Signature → Bool
is_type s None = false
is_type s (Some t) = same_signature s t

-- the first type that is this one
abbrev pub type_place : Signature → List (Option Signature) → Option ℕ
type_place s [] = None
type_place s (t ∷ ts) = cond (is_type s t) (Some 0) (option_map suc (type_place s ts))

-- the type that a field writes
abbrev pub written_type : List (Option Id) → Field → Option Signature
written_type ids (type_field o n d) = defined ids d
written_type ids _ = None

-- the written types, in order
abbrev pub written_types : List Field → List (Option Signature)
written_types fs = map (written_type (ids_in CoreType fs)) (items_in CoreType fs)

-- the type uses of an entity and of a field
abbrev pub uses_of_entity : Entity → List TypeUse
uses_of_entity (func u) = u ∷ []
uses_of_entity _ = []

abbrev pub uses_of : Field → List TypeUse
uses_of (import_field o m x n e) = uses_of_entity e
uses_of (func_field o n i u ls is) = u ∷ []
uses_of _ = []

-- what a use needs: without an index its own signature
abbrev pub needed_by : List (Option Id) → Option Index → Option FunctionType → List Signature
needed_by ids None t = written_signature ids t ∷ []
needed_by ids (Some i) t = []

abbrev pub needed : List (Option Id) → TypeUse → List Signature
needed ids u = needed_by ids u.index u.signature

-- a type that is needed, where it is not among these
abbrev pub new_type : List (Option Signature) → Signature → List Signature
new_type ts s = cond (is_some (type_place s ts)) [] (s ∷ [])

-- the types that are added to these, in the order of first need
abbrev pub added : List (Option Signature) → List Signature → List Signature
added ts [] = []
added ts (s ∷ ss) = new_type ts s ++ added (ts ++ map Some (new_type ts s)) ss

abbrev pub added_types : List Field → List Signature
added_types fs = added (written_types fs) (flat_map (needed (ids_in CoreType fs)) (flat_map uses_of fs))

-- all types: the written ones, and behind them those that are added
abbrev pub all_types : List Field → List (Option Signature)
all_types fs = written_types fs ++ map Some (added_types fs)

-- the index of the type of a use: the one that it gives, else that of the first type that is its signature
abbrev pub type_by : List Field → Option Index → Option FunctionType → ℕ
type_by fs None t = unwrap_or (type_place (written_signature (ids_in CoreType fs) t) (all_types fs)) 0
type_by fs (Some i) t = index_of (ids_in CoreType fs) i

abbrev pub type_of_use : List Field → TypeUse → ℕ
type_of_use fs u = type_by fs u.index u.signature

-- the parameters that a use writes
abbrev pub written_params : Option FunctionType → List Local
written_params None = []
written_params (Some t) = t.params

-- a parameter that only its type tells of
abbrev pub nameless : CoreValue → Local
nameless v = record { naming = no_naming; value = v }

abbrev pub params_of_type : Option (Option Signature) → List Local
params_of_type None = []
params_of_type (Some None) = []
params_of_type (Some (Some s)) = map nameless s.params

-- the parameters of a use: those that it writes, else those of its type, where there is one
abbrev pub params_by : List Field → ℕ → Option FunctionType → List Local
params_by fs i (Some t) = t.params
params_by fs i None = params_of_type (slice_get (all_types fs) i)

-- the parameters and locals of a function; the place of one is its index
abbrev pub locals_of : List Field → TypeUse → List Local → List Local
locals_of fs u ls = params_by fs (type_of_use fs u) u.signature ++ ls

abbrev pub ids_of : List Local → List (Option Id)
ids_of ls = map (λ l. l.naming.id) ls
