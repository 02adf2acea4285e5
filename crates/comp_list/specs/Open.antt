-- What the scopes that are open during a walk stand for.
use Rattle.std.specs.Prelude.{List, [], ◌∷◌}
use Rattle.comp_model.specs.Model.{Defs}
use Rattle.wire_tree.specs.Lists as rows
use Rattle.item_tree.specs.Model as items
use Rattle.comp_list.specs.declared.open.OpenDefs.{OpenDefs}
use Rattle.comp_list.specs.declared.open.OpenDefs.TheVariants as d
use Rattle.comp_list.specs.declared.open.Around.{Around}
use Rattle.comp_list.specs.declared.open.Around as a
use Rattle.comp_list.specs.Spots.{HasSpots}

-- the definitions of an open scope
abbrev pub defs_in : OpenDefs → Defs
defs_in (d.Rows ns) = rows.defs_listed ns.now
defs_in (d.Items xs) = items.defs_listed xs.now

-- the definitions of each, the innermost first
abbrev pub scopes_of : Around → List Defs
scopes_of a.Nothing = []
scopes_of (a.Scope' p spots defs outer) = defs_in defs ∷ scopes_of outer

-- each has the items that its definitions declare
abbrev pub AllFound : Around → Type 0
AllFound a.Nothing = Unit {0}
AllFound (a.Scope' p spots defs outer) = HasSpots spots.now (defs_in defs) × AllFound outer
