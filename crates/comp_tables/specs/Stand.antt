-- What the tables have to be of the scopes that are open, for what is read from them to be right.
use Rattle.std.specs.Prelude.{ℕ, ◌≡◌, ◌&&◌, cond, List, [], ◌∷◌, ◌++◌, slice_index, Option, Some, None, option_map, ⊤}
use Rattle.comp_model.specs.declared.Space.{Space}
use Rattle.comp_model.specs.Core.{Id}
use Rattle.comp_model.specs.Model.{Scope, id_of}
use Rattle.comp_model.specs.Spaces.{Declaration, declarations, declared, same_space}
use Rattle.comp_model.specs.Origins.{Origin, written, outer_alias_of}
use Rattle.comp_scopes.specs.Names.{Denoted}
use Rattle.comp_scopes.specs.Outward.{Outward, outward_names, same_item}
use Rattle.comp_scopes.specs.Plan.{Mark, marks, before, counts}
use Rattle.comp_tables.specs.Tables.{Counters, alias_of, Opened}

-- each open scope has the id of its scope and finds what the scope declares
abbrev pub RegistriesHold : List Opened → List Scope → Type 0
RegistriesHold [] [] = ⊤
RegistriesHold [] (c ∷ st) = ⊥
RegistriesHold (o ∷ os) [] = ⊥
RegistriesHold (o ∷ os) (c ∷ st) = (o.id ≡ id_of c) × ((s : Space) (x : Id) → o.names s x ≡ declared c s x) × RegistriesHold os st

-- P holds of each of these declarations
abbrev pub EachItem : (Declaration → Type 0) → List Declaration → Type 0
EachItem P [] = ⊤
EachItem P (d ∷ ds) = P d × EachItem P ds

-- the table has the index of the first item that the definition declares
abbrev pub HoldsFirst : List ℕ → List Mark → Declaration → Type 0
HoldsFirst table ms d = slice_index table d.definition ≡ before d.space (written d.definition) ms

-- each table holds the first indices of its scope
abbrev pub TablesHold : List Opened → List Scope → Type 0
TablesHold [] [] = ⊤
TablesHold [] (c ∷ st) = ⊥
TablesHold (o ∷ os) [] = ⊥
TablesHold (o ∷ os) (c ∷ st) = EachItem (HoldsFirst o.table (marks (c ∷ st))) (declarations c) × TablesHold os st

-- the first of these names that lead out which denotes the item
abbrev pub first_alias : Space → Denoted → List Outward → Option Origin
first_alias s d [] = None
first_alias s d (w ∷ ws) = cond (same_space s w.space && same_item d w.denoted) (Some w.origin) (first_alias s d ws)

-- the name that is reference u of definition k, with what it denotes
abbrev pub outward_at : ℕ → ℕ → Space → Denoted → Outward
outward_at k u s d = record { origin = outer_alias_of k u; space = s; denoted = d }

-- of the innermost scope, the counters are the declarations in these marks, and the aliases those of the items that these names denote
pub record CountersHold (st : List Scope) (c : Counters) (front : List Mark) (named : List Outward) : Type 0 where
  pub counted : (s : Space) → c.counts s ≡ counts s front
  pub aliased : (s : Space) (d : Denoted) → alias_of s d c.aliases ≡ option_map (λ o. before s o (marks st)) (first_alias s d named)

-- along the innermost scope these marks, and these names that lead out, come next, and the counters hold what is in front of them
pub record ComesNext (st : List Scope) (c : Counters) (ms : List Mark) (ws : List Outward) : Type 0 where
  pub front : List Mark
  pub rest : List Mark
  pub named : List Outward
  pub later : List Outward
  pub held : CountersHold st c front named
  pub marked : marks st ≡ front ++ (ms ++ rest)
  pub led : outward_names st ≡ named ++ (ws ++ later)
