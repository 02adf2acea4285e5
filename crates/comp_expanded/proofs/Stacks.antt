-- A stack of scopes expanded under namings that serve them.
use Rattle.std.specs.Prelude.{List, [], ◌∷◌, ⊤}
use Rattle.comp_model.specs.Model.{Scope}
use Rattle.comp_scopes.specs.Rowed.{Rowed}
use Rattle.comp_expanded.specs.Expansion.{Naming, expand}
use Rattle.comp_expanded.specs.OfText.{OfText}
use Rattle.comp_expanded.specs.Named.{Named}

-- the stack of the expanded scopes
abbrev pub expand_stack : List Naming → List Scope → List Scope
expand_stack [] st = []
expand_stack (g ∷ gs) [] = []
expand_stack (g ∷ gs) (s ∷ st) = expand g s ∷ expand_stack gs st

-- a naming for each scope of a stack, which serves it; each is a scope of the text by its rows
abbrev pub AllNamed : List Naming → List Scope → Type 0
AllNamed [] [] = ⊤
AllNamed [] (s ∷ st) = ⊥
AllNamed (g ∷ gs) [] = ⊥
AllNamed (g ∷ gs) (s ∷ st) = (Rowed s × OfText s × Named g s) × AllNamed gs st
