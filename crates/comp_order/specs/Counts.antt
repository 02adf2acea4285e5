-- How many items of each space there are, as code has it.
use Rattle.std.specs.Prelude.{◌≡◌, ℕ, ◌-◌, ◌^◌, min, List, get_or}
use Rattle.comp_model.specs.declared.Space.{Space}
use Rattle.comp_model.specs.Model.{Defs}
use Rattle.comp_model.specs.Spaces.{code_of_space, count_items}

-- the greatest number of 64 bits stands for every greater one
abbrev pub capped : ℕ → ℕ
capped n = min n (2 ^ 64 - 1)

abbrev pub counted : List ℕ → Space → ℕ
counted cs s = get_or cs (code_of_space s) 0

-- the items of the definitions are as many
abbrev pub HasCounts : List ℕ → Defs → Type 0
HasCounts cs ds = (s : Space) → capped (counted cs s) ≡ capped (count_items s ds)
