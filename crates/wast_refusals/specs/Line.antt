-- The line that says why a text is refused, and where.
use Rattle.std.specs.Prelude.{ℕ, List, [], ◌∷◌, ◌++◌, codes}
use Rattle.std.specs.Fmt.{decimal}

-- the line of a refusal, by the name of its kind and its offset in the input
abbrev pub refusal_line : List ℕ → ℕ → List ℕ
refusal_line name offset = codes "error: " ++ name ++ codes " at " ++ decimal offset ++ 10 ∷ []
