-- The names that a component gives to its items: a label, or else an id of the text (Component Model binary format, "Name Section").
use Rattle.std.specs.Prelude.{ℕ, ◌+◌, Bool, true, false, ◌&&◌, ◌||◌, List, [], ◌∷◌, ◌++◌, is_some, Option, Some, None}
use Rattle.comp_model.specs.declared.Space.{Space}
use Rattle.comp_model.specs.Core.{Text, Id, label_or_id}
use Rattle.comp_model.specs.Model.{row, define, Defs, no_def, one_def, Scope, kind_of, id_of, label_of, defs_of}
use Rattle.comp_model.specs.declared.row.ScopeKind.{ScopeKind}
use Rattle.comp_model.specs.declared.row.ScopeKind.TheVariants as kinds
use Rattle.comp_model.specs.Spaces.{declares_row}
use Rattle.comp_model.specs.NameMaps.{ItemName, NameMap}

-- the name of part `part` of definition `definition`, or none
pub record PartName : Type 0 where
  pub space : Space
  pub definition : ℕ
  pub part : ℕ
  pub name : Option Text

-- the first of a list that may be shorter
abbrev pub first_or_none : {A : Type 0} → List (Option A) → Option A
first_or_none [] = None
first_or_none (x ∷ xs) = x

-- the others
abbrev pub rest_of : {A : Type 0} → List A → List A
rest_of [] = []
rest_of (x ∷ xs) = xs

-- the names of the parts of definition k from part p on
abbrev pub part_names : ℕ → ℕ → List (Option Id) → List (Option Text) → List Space → List PartName
part_names k p ids labels [] = []
part_names k p ids labels (s ∷ ss) = record { space = s; definition = k; part = p; name = label_or_id (first_or_none labels) (first_or_none ids) } ∷ part_names k (p + 1) (rest_of ids) (rest_of labels) ss

-- the names of all declared items, the first definition of which has number k
abbrev pub names_from : ℕ → Defs → List PartName
names_from k no_def = []
names_from k (one_def (define names (row t ls)) ds) = part_names k 0 names.ids names.labels (declares_row t ls) ++ names_from (k + 1) ds

-- whether one of them has a name
abbrev pub any_named : List PartName → Bool
any_named [] = false
any_named (n ∷ ns) = is_some n.name || any_named ns

-- the name of the component itself
abbrev pub own_name : Scope → Option Text
own_name s = label_or_id (label_of s) (id_of s)

-- a component, which alone has a name section
abbrev pub is_component : ScopeKind → Bool
is_component kinds.Component = true
is_component kinds.ComponentType = false
is_component kinds.InstanceType = false
is_component kinds.ModuleType = false

-- a component in which it or an item that it declares has an id of the text or a label
abbrev pub has_names : Scope → Bool
has_names s = is_component (kind_of s) && (is_some (own_name s) || any_named (names_from 0 (defs_of s)))

-- one more item name, where it is of the space and there
abbrev pub name_in_front : Bool → Option Text → ℕ → List ItemName → List ItemName
name_in_front true (Some x) i ns = record { index = i; name = x } ∷ ns
name_in_front _ _ i ns = ns

-- a space without names is left out
abbrev pub map_in_front : Space → List ItemName → List NameMap → List NameMap
map_in_front s [] maps = maps
map_in_front s (n ∷ ns) maps = record { space = s; names = n ∷ ns } ∷ maps
