use Rattle.open_scopes.proofs.Stacks.{some-shown, pushed-shows, pushed-indexed}
use Rattle.open_scopes.proofs.laws.opened_scopes_show.Goals as goal

pub returns : goal.returns
returns c = record { some_shown = some-shown; none_open = tt; shown = pushed-shows; none_indexed = tt; indexed = pushed-indexed }
