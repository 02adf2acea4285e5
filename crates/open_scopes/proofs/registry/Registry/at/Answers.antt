use Rattle.std.proofs.Common.{ap, sym, ◌∙◌}
use Rattle.comp_scopes.specs.Names.{first_of_two}
use Rattle.comp_walks.specs.Lent.{id_of}
use Rattle.open_scopes.specs.Registered.{item_among}
use Rattle.open_scopes.proofs.Keys.{at-key}
use Rattle.open_scopes.proofs.registry.Registry.at.Goals as goal

pub returns-in-Some : goal.returns-in-Some
returns-in-Some c = ap (λ z. first_of_two z (item_among c.args.self.now.items.entries c.args.space (id_of c.args.id))) (sym c.in-Some.is ∙ c.numbered_at.ensures)

pub returns-in-None : goal.returns-in-None
returns-in-None c =
    c.copied.ensures ∙ c.get.ensures.value ∙ at-key c.args.self.now.items.entries c.args.key.now c.args.space (id_of c.args.id) c.requires.key
    ∙ ap (λ z. first_of_two z (item_among c.args.self.now.items.entries c.args.space (id_of c.args.id))) (sym c.in-None.is ∙ c.numbered_at.ensures)
