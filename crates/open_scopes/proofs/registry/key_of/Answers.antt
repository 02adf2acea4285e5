use Rattle.std.proofs.Common.{◌∙◌, ap}
use Rattle.name_ends.specs.Endings.{ending}
use Rattle.open_scopes.proofs.registry.key_of.Goals as goal

pub returns : goal.returns
returns c = record { end = c.ending.ensures ∙ ap ending c.name-name.ensures.name; space = c.space_number.ensures.number; number = c.number.ensures.number; name = c.name-name.ensures.name }
