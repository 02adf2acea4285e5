use Rattle.open_scopes.proofs.registry.Registry.find.Goals as goal

pub at-requires : goal.at-requires
at-requires c = record { key = c.key_of.ensures }
