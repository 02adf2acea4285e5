-- The roots of the paths of parts of a definition among open scopes.
use Rattle.std.specs.Prelude.{◌≡◌, List, None, Option}
use Rattle.comp_scopes.specs.Unmet.{Unmet}
use Rattle.comp_tables.specs.Tables.{Opened}
use Rattle.wast_tokens.specs.declared.error.Error.{Error}
use Rattle.open_scopes.specs.declared.lookup.Found.{Found}
use Rattle.open_scopes.specs.declared.scopes.Open.{Open}
use Rattle.open_scopes.specs.Shown.{OpenScopesShow}
use Rattle.tree_names.specs.AllFound.{FoundFirst, FoundTaken}
use Rattle.tree_names.specs.Counted.{RefusedBy}

-- each is there
abbrev pub Rooted : List Open → (List Opened → Option Unmet) → Type 0
Rooted os u = (ms : List Opened) → OpenScopesShow os ms → u ms ≡ None

-- and what was found for the names of the part was taken
pub record RootsPassed (os : List Open) (unmet : List Opened → Option Unmet) (found : List Opened → List (Option Found)) (old new : List (Option Found)) : Type 0 where
  pub rooted : Rooted os unmet
  pub taken : FoundTaken os found old new

-- what a loop over a list has come to, by what is left of it
pub record RootsLeft (os : List Open) (all rest : List Opened → Option Unmet) (found behind : List Opened → List (Option Found)) (first now : List (Option Found)) : Type 0 where
  pub front : FoundFirst os behind now
  pub done : (end : List (Option Found)) → RootsPassed os rest behind now end → RootsPassed os all found first end
  pub refused : (x : Error) → RefusedBy os rest x → RefusedBy os all x
