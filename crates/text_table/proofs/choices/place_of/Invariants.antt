use Rattle.std.proofs.Common.{◌≡◌, ◌+◌, drop}
use Rattle.text_table.specs.Choice.{place_among}
use Rattle.text_table.proofs.choices.place_of.Given as goal

abbrev pub invariant-places : goal.invariant-places
invariant-places l = place_among (drop l.place l.words) l.code + l.place ≡ place_among l.words l.code
