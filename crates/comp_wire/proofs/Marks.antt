-- The marks of a scope, as those of the list that the program sees.
use Rattle.std.proofs.Common.{◌≡◌, List, refl, ap, ◌∙◌}
use Rattle.comp_model.specs.Origins.{origin_then}
use mathlib.Core.Former.{this, arity}
use Rattle.comp_wire.specs.formers.seq.Seq.{the_former}
use Rattle.comp_wire.specs.declared.origin.ItemOrigin.{ItemOrigin, ItemOrigin'}
use Rattle.comp_wire.specs.declared.origin.ScopeOrigins.{ScopeOrigins', roll-ScopeOrigins, Row_of-ItemOrigin, end_of-ItemOrigin, more_of-ItemOrigin, items-the_row-ItemOrigin, items_hidden-the_row-ItemOrigin-0}
use Rattle.comp_wire.specs.declared.origin.ItemOrigin.TheBlock.{hidden-the_row-ItemOrigin-0}
use Rattle.comp_wire.specs.Origins.{origin_of, held_of, origins_of, origins_of_row, origins_of_list}

as_list : {n : _} (ds : Row_of-ItemOrigin n) → origins_of_row ds ≡ origins_of_list (items-the_row-ItemOrigin n ds)
as_list end_of-ItemOrigin = refl
as_list (more_of-ItemOrigin (ItemOrigin' o h ps) ds) = ap (origin_then (origin_of o) (held_of h)) (as_list ds)

pub origins_as_list : (shape : _) (items : Row_of-ItemOrigin (arity (the_former this) shape)) → origins_of (ScopeOrigins' shape items) ≡ origins_of_list (items-the_row-ItemOrigin _ items)
origins_as_list shape items = as_list items

-- the marks of a scope that was made of a list
pub origins_rolled : (items : List ItemOrigin) → origins_of (roll-ScopeOrigins (record { items = items })) ≡ origins_of_list items
unfolding roll-ScopeOrigins hidden-the_row-ItemOrigin-0 denote.Hole.Carrier.roll denote.Hole.Carrier.hidden
origins_rolled items = as_list (hidden-the_row-ItemOrigin-0 items) ∙ ap origins_of_list (items_hidden-the_row-ItemOrigin-0 items)
