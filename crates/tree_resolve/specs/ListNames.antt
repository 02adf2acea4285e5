-- The names of the items of one space along definitions, each with the number of items in front of it.
use Rattle.std.specs.Prelude.{ℕ, ◌+◌, Bool, false, ◌||◌, List, [], ◌∷◌, ◌++◌, Option}
use Rattle.comp_model.specs.declared.Space.{Space}
use Rattle.comp_model.specs.Core.{Text, Id, label_or_id}
use Rattle.comp_model.specs.Model.{row, Def, define, Defs, no_def, one_def}
use Rattle.comp_model.specs.Spaces.{declares_row, count_in, same_space}
use Rattle.comp_model.specs.NameMaps.{ItemName}
use Rattle.comp_model.specs.ItemNames.{first_or_none, rest_of, part_names, any_named, name_in_front}
use Rattle.comp_tables.specs.Tables.{Counters, Opened, advanced, past}

-- of the parts of a definition from part p on, which has b items of the space in front
abbrev pub item_names : Space → ℕ → ℕ → List (Option Id) → List (Option Text) → List Space → List ItemName
item_names s b p ids labels [] = []
item_names s b p ids labels (t ∷ ts) = name_in_front (same_space s t) (label_or_id (first_or_none labels) (first_or_none ids)) (b + p) (item_names s b (p + 1) (rest_of ids) (rest_of labels) ts)

-- of definitions, which have b items in front
abbrev pub names_counted : Space → ℕ → Defs → List ItemName
names_counted s b no_def = []
names_counted s b (one_def (define names (row t ls)) ds) = item_names s b 0 names.ids names.labels (declares_row t ls) ++ names_counted s (b + count_in s (declares_row t ls)) ds

-- the same before the definitions that they need stand in the list: these are counted by the counters
abbrev pub names_tabled : List Opened → Space → Counters → Defs → List ItemName
names_tabled ms s c no_def = []
names_tabled ms s c (one_def (define names (row t ls)) ds) = item_names s ((past ms ls c).counts s) 0 names.ids names.labels (declares_row t ls) ++ names_tabled ms s (advanced (declares_row t ls) (past ms ls c)) ds

-- whether an item of a definition has a name
abbrev pub any_of : Def → Bool
any_of (define names (row t ls)) = any_named (part_names 0 0 names.ids names.labels (declares_row t ls))

-- whether an item of definitions has a name
abbrev pub any_in : Defs → Bool
any_in no_def = false
any_in (one_def (define names (row t ls)) ds) = any_named (part_names 0 0 names.ids names.labels (declares_row t ls)) || any_in ds
