-- What opening a scope gives.
use Rattle.std.specs.Prelude.{◌≡◌, List, ◌∷◌, [], ◌++◌}
use Rattle.comp_model.specs.CoreModules.{CoreModule}
use Rattle.comp_model.specs.Model.{defs_of}
use Rattle.comp_model.specs.Spaces.{declarations}
use Rattle.comp_scopes.specs.Names.{first_of_two}
use Rattle.comp_scopes.specs.Unmet.{Unmet}
use Rattle.comp_tables.specs.Tables.{Opened, nothing_registered, first_taken, unmet_kinds_defs}
use Rattle.comp_tables.specs.Built.{half_open, open_scope}
use Rattle.std.specs.Prelude.{Option}
use Rattle.comp_tree.specs.declared.tree.Scope.{Scope}
use Rattle.comp_tree.specs.Model.{scope_of}
use Rattle.comp_model.specs.Model as m
use Rattle.open_scopes.specs.declared.scopes.Open.{Open}
use Rattle.open_scopes.specs.Indexed.{OpenIndexed}
use Rattle.open_scopes.specs.Shown.{OpenScopesShow}
use Rattle.tree_names.specs.Rooted.{Rooted}

-- the first two searches of a scope
abbrev pub unmet_opening : m.Scope → List Opened → Option Unmet
unmet_opening s ms = first_of_two (first_taken nothing_registered (declarations s)) (unmet_kinds_defs (half_open s ∷ ms) (defs_of s))

-- a scope stands opened in front of others
pub record Entered (C : List CoreModule) (outer opened : List Open) (s : Scope) : Type 0 where
  pub innermost : Open
  pub one_more : opened ≡ outer ++ innermost ∷ []
  pub shown : (ms : List Opened) → OpenScopesShow outer ms → OpenScopesShow opened (open_scope ms (scope_of C s) ∷ ms)
  pub indexed : OpenIndexed outer → OpenIndexed opened
  pub known : Rooted outer (unmet_opening (scope_of C s))
