-- Where each definition of a binary scope comes from.
use Rattle.std.specs.Prelude.{ℕ, bytes_eq, Bool, List, [], ◌∷◌}

-- `definition` counts the written definitions of the scope from 0, `reference` the references of that definition in leaf order
pub data Origin : Type 0 where
  -- a definition that stands in the text
  written : (definition : ℕ) → Origin
  -- a type that the text writes inside another definition
  inline_type : (definition : ℕ) → (reference : ℕ) → Origin
  -- an instance that an argument writes as a list of exports
  bundle_of : (definition : ℕ) → (reference : ℕ) → Origin
  -- the export of an `(export "name")` inside a definition, by its number there
  inline_export : (definition : ℕ) → (number : ℕ) → Origin
  -- the alias of one export name behind a reference
  export_step : (definition : ℕ) → (reference : ℕ) → (step : ℕ) → Origin
  -- the alias of an item of an enclosing scope
  outer_alias_of : (definition : ℕ) → (reference : ℕ) → Origin
  -- the custom section of names
  name_section : Origin

-- an origin as numbers, by which it is compared
abbrev pub numbers_of : Origin → List ℕ
numbers_of (written k) = 0 ∷ k ∷ []
numbers_of (inline_type k u) = 1 ∷ k ∷ u ∷ []
numbers_of (bundle_of k u) = 2 ∷ k ∷ u ∷ []
numbers_of (inline_export k j) = 3 ∷ k ∷ j ∷ []
numbers_of (export_step k u s) = 4 ∷ k ∷ u ∷ s ∷ []
numbers_of (outer_alias_of k u) = 5 ∷ k ∷ u ∷ []
numbers_of name_section = 6 ∷ []

-- whether two origins are one
abbrev pub same_origin : Origin → Origin → Bool
same_origin a b = bytes_eq (numbers_of a) (numbers_of b)

-- a mark for each definition of a binary scope, in order, with the marks of the scope that the definition holds
mutual
  pub data Origins : Type 0 where
    no_origins : Origins
    origin_then : Origin → Held → Origins → Origins

  pub data Held : Type 0 where
    holds_none : Held
    holds : Origins → Held
