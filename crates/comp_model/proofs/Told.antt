-- A visitor that is told no definitions stays as it is where they stand.
use Rattle.std.proofs.Common.{◌≡◌, refl}
use Rattle.comp_model.specs.Model.{row, define, Defs, no_def, one_def}
use Rattle.comp_model.specs.Events.{Event, told_defs, enters_none}

pub none-told : {S : Type 0} (step : S → Event → S) (ds : Defs) (x : S) → told_defs step enters_none ds x ≡ x
none-told step no_def x = refl
none-told step (one_def (define names (row t ls)) ds) x = none-told step ds x
