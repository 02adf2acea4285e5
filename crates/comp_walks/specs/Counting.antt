-- How many references a visitor is told.
use Rattle.std.specs.Prelude.{ℕ, zero, suc, ◌+◌}
use Rattle.comp_model.specs.Events.{Event, leaf, inline, bundle}
use Rattle.comp_scopes.specs.References.{references_leaf}
use Rattle.comp_walks.specs.Weigh.{capped}

-- so many more
abbrev pub and_more : ℕ → ℕ → ℕ
and_more n zero = n
and_more n (suc k) = capped (n + suc k)

-- a leaf with no node in it is one reference or none
abbrev pub count_step : ℕ → Event → ℕ
count_step n (leaf l) = and_more n (references_leaf l)
count_step n (inline s) = capped (n + 1)
count_step n (bundle s) = capped (n + 1)
count_step n _ = n
