use Rattle.comp_tables.proofs.TakenPlaces.{same-needs}
use Rattle.comp_tables.proofs.laws.needs_take_places.Goals as goal

pub returns : goal.returns
returns c = same-needs
