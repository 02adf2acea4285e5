-- Ids, references, places and names that a tree lends, as the model has them.
use Rattle.std.specs.Prelude.{ℕ, List, [], ◌∷◌, ◌++◌, Option, map, option_map}
use Rattle.std.proofs.Common.{Bor}
use Rattle.comp_model.specs.Core as core
use Rattle.comp_model.specs.Core.{Text}
use Rattle.comp_model.specs.Model as m
use Rattle.comp_model.specs.Model.{Target, Path}
use Rattle.wast_parser.specs.declared.index.Id as spelled
use Rattle.wast_parser.specs.declared.index.Index.{Index}
use Rattle.wast_parser.specs.declared.index.Index.TheVariants.{Num, Id}
use Rattle.comp_walks.specs.declared.part.Reach.{Reach}
use Rattle.comp_walks.specs.declared.part.Reach.TheVariants as reaches
use Rattle.comp_walks.specs.declared.part.CoreValue.{CoreValue}
use Rattle.comp_walks.specs.declared.part.CoreValue.TheVariants as values
use Rattle.comp_walks.specs.declared.part.Names.{Names}

abbrev pub id_of : spelled.Id → core.Id
id_of x = record { name = x.name.now; number = x.number; offset = x.span.offset }

-- the first part of an outer alias, whose word stands at the offset
abbrev pub place_of : ℕ → Index → core.Place
place_of offset (Num n span) = core.counted offset n
place_of offset (Id x) = core.named offset (id_of x)

abbrev pub reach_of : Reach → core.Reach
reach_of reaches.Outward = core.outward
reach_of reaches.Own = core.own
reach_of (reaches.At span i) = core.at_place (place_of span.offset i)

-- a reference by an index
abbrev pub index_of : core.Reach → Index → Target
index_of r (Num n span) = m.numeral span.offset n
index_of r (Id x) = m.name r (id_of x)

-- where a reference stands
abbrev pub index_offset : Index → ℕ
index_offset (Num n span) = span.offset
index_offset (Id x) = x.span.offset

-- a path: its root, and the export names behind it
abbrev pub root_of : Index → Path
root_of (Num n span) = m.root_number span.offset n
root_of (Id x) = m.root_name (id_of x)

abbrev pub path_from : Path → List Text → Path
path_from p [] = p
path_from p (t ∷ ts) = path_from (m.export_of p t) ts

-- a reference by an index, or by the path behind it
abbrev pub target_of : Index → List Text → Target
target_of i [] = index_of core.outward i
target_of i (t ∷ ts) = m.path (path_from (root_of i) (t ∷ ts))

-- a core value type; of a reference the flag says that it is nullable
abbrev pub core_value_of : CoreValue → core.CoreValue
core_value_of values.I32 = core.i32
core_value_of values.I64 = core.i64
core_value_of values.F32 = core.f32
core_value_of values.F64 = core.f64
core_value_of values.V128 = core.v128
core_value_of (values.RefFunc b) = core.ref_func b
core_value_of (values.RefExtern b) = core.ref_extern b
core_value_of (values.RefConcrete b r (Num n span)) = core.ref_numeral b span.offset n
core_value_of (values.RefConcrete b r (Id x)) = core.ref_name b (reach_of r) (id_of x)
core_value_of values.Other = core.other_value

abbrev pub lent_text : Bor Text → Text
lent_text t = t.now

abbrev pub texts_of : List (Bor Text) → List Text
texts_of ts = map lent_text ts

-- a text in pieces
abbrev pub joined : List (Bor Text) → Text
joined [] = []
joined (t ∷ ts) = t.now ++ joined ts

abbrev pub label_of : Option (Bor Text) → Option Text
label_of o = option_map lent_text o

abbrev pub ids_of : List (Option spelled.Id) → List (Option core.Id)
ids_of xs = map (option_map id_of) xs

abbrev pub labels_of : List (Option (Bor Text)) → List (Option Text)
labels_of xs = map label_of xs

-- the names of a definition
abbrev pub names_of : Names → m.Names
names_of n = record { ids = ids_of n.ids.now; labels = labels_of n.labels.now; exports = texts_of n.exports.now; offset = n.span.offset }
