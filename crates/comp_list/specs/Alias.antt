-- Outer aliases, as code has them.
use Rattle.std.specs.Prelude.{ℕ, ◌+◌, List, Option, Some, None}
use Rattle.comp_model.specs.Model.{Node, row, Defs}
use Rattle.comp_list.specs.declared.alias.OuterAlias.{OuterAlias}
use Rattle.comp_list.specs.declared.line.Led.{Led}
use Rattle.comp_list.specs.declared.line.Led.TheVariants.{Not}
use Rattle.comp_list.specs.References.{outer_count}
use Rattle.comp_list.specs.Listing.{spot_at, led_there, led_by}

-- where an outer alias leads that stands so many scopes outward
abbrev pub led_by_alias : List Defs → ℕ → Option OuterAlias → Led
led_by_alias scopes up None = Not
led_by_alias scopes up (Some a) = led_there (a.count + up) (spot_at scopes (a.count + up) a.reference.space a.reference.index)

-- how many scopes outward a row refers
abbrev pub row_outer : Node → Option ℕ
row_outer (row t ls) = outer_count t ls

-- where a row leads that stands so many scopes outward
abbrev pub row_led : List Defs → ℕ → Node → Led
row_led scopes up (row t ls) = led_by scopes up t ls
