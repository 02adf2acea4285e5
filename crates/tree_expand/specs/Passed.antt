-- The types of a scope that a walk has passed, in the order of their marks, each with the id of its definition.
use Rattle.std.specs.Prelude.{List, [], ◌∷◌, Option}
use Rattle.comp_model.specs.Core.{Id}
use Rattle.comp_scopes.specs.Reused.{Typed}

pub record Noted : Type 0 where
  pub typed : Typed
  pub id : Option Id

abbrev pub types_in : List Noted → List Typed
types_in [] = []
types_in (x ∷ xs) = x.typed ∷ types_in xs

abbrev pub ids_in : List Noted → List (Option Id)
ids_in [] = []
ids_in (x ∷ xs) = x.id ∷ ids_in xs
