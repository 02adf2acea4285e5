-- The marks of types, by their numbers.
use Rattle.std.specs.Prelude.{ℕ, zero, suc, ◌≡◌, false, List, [], ◌∷◌, ⊤}
use Rattle.comp_model.specs.Origins.{Origin, name_section, same_origin}
use Rattle.comp_scopes.specs.Reused.{Typed}

-- none of these types has the mark
abbrev pub NoneMarked : Origin → List Typed → Type 0
NoneMarked o [] = ⊤
NoneMarked o (x ∷ xs) = (same_origin o x.origin ≡ false) × NoneMarked o xs

-- the mark of the type of this number
abbrev pub origin_of : List Typed → ℕ → Origin
origin_of [] n = name_section
origin_of (x ∷ xs) zero = x.origin
origin_of (x ∷ xs) (suc n) = origin_of xs n
