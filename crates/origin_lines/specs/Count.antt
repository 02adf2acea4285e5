-- How many marks origins have.
use Rattle.std.specs.Prelude.{ℕ, ◌+◌}
use Rattle.comp_model.specs.Origins.{Origin, outer_alias_of, Origins, no_origins, origin_then, Held, holds_none, holds}

-- one for an outer alias, and none for another mark
abbrev pub one_if_outer : Origin → ℕ
one_if_outer (outer_alias_of d p) = 1
one_if_outer _ = 0

-- the sum over all marks of all scopes of what each counts
abbrev mutual
  pub total : (Origin → ℕ) → Origins → ℕ
  total each no_origins = 0
  total each (origin_then o h os) = each o + held_total each h + total each os

  pub held_total : (Origin → ℕ) → Held → ℕ
  held_total each holds_none = 0
  held_total each (holds os) = total each os

-- all marks of all scopes
abbrev pub marks_in : Origins → ℕ
marks_in os = total (λ o. 1) os

-- those of outer aliases
abbrev pub outer_aliases_in : Origins → ℕ
outer_aliases_in os = total one_if_outer os
