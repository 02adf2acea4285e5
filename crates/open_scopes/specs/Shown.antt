-- The open scopes of the model that those of the code stand for.
use Rattle.std.specs.Prelude.{◌≡◌, List, [], ◌∷◌, reverse, option_map, ⊤}
use Rattle.comp_scopes.specs.Names.{Denoted}
use Rattle.comp_tables.specs.Tables.{Opened}
use Rattle.comp_walks.specs.Lent.{id_of}
use Rattle.open_scopes.specs.declared.scopes.Open.{Open}
use Rattle.open_scopes.specs.declared.lookup.Found.{Found}
use Rattle.open_scopes.specs.Registered.{Registers, item_of}

-- an open scope: its id, its registry, and its table
pub record Shows (o : Open) (m : Opened) : Type 0 where
  pub id : option_map id_of o.id ≡ m.id
  pub names : Registers o.names m.names
  pub table : o.table.items ≡ m.table

-- one beside the other, as many as there are
abbrev pub ScopesShow : List Open → List Opened → Type 0
ScopesShow [] [] = ⊤
ScopesShow [] (m ∷ ms) = ⊥
ScopesShow (o ∷ os) [] = ⊥
ScopesShow (o ∷ os) (m ∷ ms) = Shows o m × ScopesShow os ms

-- open scopes, the innermost of which stands last here and first in the model
abbrev pub OpenScopesShow : List Open → List Opened → Type 0
OpenScopesShow scopes ms = ScopesShow (reverse scopes) ms

-- what is denoted
abbrev pub found_of : Denoted → Found
found_of d = record { depth = d.depth; item = item_of d.item }
