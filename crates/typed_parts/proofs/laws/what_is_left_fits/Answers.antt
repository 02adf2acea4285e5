use Rattle.typed_parts.proofs.Leaving.{line_fits}
use Rattle.typed_parts.proofs.laws.what_is_left_fits.Goals as goal

pub returns : goal.returns
returns c = line_fits c.rules_leave_their_sorts.ensures c.names_are_of_text.ensures
