-- The marks of a component's definitions, as those of the model.
use Rattle.std.specs.Prelude.{List, [], ◌∷◌}
use Rattle.comp_model.specs.Origins as mark
use Rattle.comp_model.specs.Origins.{Origins, no_origins, origin_then, Held, holds_none, holds}
use Rattle.comp_wire.specs.declared.origin.Origin.{Origin}
use Rattle.comp_wire.specs.declared.origin.Origin.TheVariants as origin
use Rattle.comp_wire.specs.declared.origin.ItemOrigin.{ItemOrigin, ItemOrigin', Held-ItemOrigin-inner, None', Some'}
use Rattle.comp_wire.specs.declared.origin.ScopeOrigins.{ScopeOrigins, ScopeOrigins', Row_of-ItemOrigin, end_of-ItemOrigin, more_of-ItemOrigin}

abbrev pub origin_of : Origin → mark.Origin
origin_of (origin.Written k) = mark.written k
origin_of (origin.InlineType k u) = mark.inline_type k u
origin_of (origin.Bundle k u) = mark.bundle_of k u
origin_of (origin.InlineExport k j) = mark.inline_export k j
origin_of (origin.ExportStep k u s) = mark.export_step k u s
origin_of (origin.OuterAlias k u) = mark.outer_alias_of k u
origin_of origin.NameSection = mark.name_section

abbrev mutual
  pub held_of : Held-ItemOrigin-inner → Held
  held_of None' = holds_none
  held_of (Some' scope) = holds (origins_of scope)

  pub origins_of : ScopeOrigins → Origins
  origins_of (ScopeOrigins' shape items) = origins_of_row items

  pub origins_of_row : {n : _} → Row_of-ItemOrigin n → Origins
  origins_of_row end_of-ItemOrigin = no_origins
  origins_of_row (more_of-ItemOrigin (ItemOrigin' o h ps) items) = origin_then (origin_of o) (held_of h) (origins_of_row items)

-- the same of a list
abbrev pub origins_of_list : List ItemOrigin → Origins
origins_of_list [] = no_origins
origins_of_list (ItemOrigin' o h ps ∷ is) = origin_then (origin_of o) (held_of h) (origins_of_list is)
