use Rattle.std.proofs.Common.{inr, is_some, refl, sym, ◌∙◌, ap}
use Rattle.comp_scopes.specs.Names.{first_of_two}
use Rattle.comp_walks.specs.Lent.{id_of}
use Rattle.open_scopes.specs.declared.registry.Registry.{Registry}
use Rattle.open_scopes.specs.Registered.{item_among}
use Rattle.open_scopes.proofs.Keys.{at-key}
use Rattle.open_scopes.proofs.Lookups.{by-key, is-added}
use Rattle.open_scopes.proofs.registry.Registry.register_named.Goals as goal

pub returns-in-Ok-None-clause-added : goal.returns-in-Ok-None-clause-added
returns-in-Ok-None-clause-added c =
    let new : Registry = record { items = c.insert.new.self; numbered = c.args.self.now.numbered } in
    is-added c.args.self.now new c.args.space (id_of c.args.id) c.args.item
    (ap (λ z. first_of_two z (item_among c.args.self.now.items.entries c.args.space (id_of c.args.id))) c.requires.named
    ∙ sym (at-key c.args.self.now.items.entries c.key_of.result c.args.space (id_of c.args.id) c.key_of.ensures) ∙ sym c.in-Ok-None.ensures.old ∙ c.in-Ok-None.field-0-is)
    (by-key c.args.self.now new c.args.space (id_of c.args.id) c.args.item c.requires.named (λ s x. refl) c.key_of.result c.key_of.ensures c.in-Ok-None.ensures.updates.0)

pub returns-in-Ok-Some-clause-refused : goal.returns-in-Ok-Some-clause-refused
returns-in-Ok-Some-clause-refused c =
    inr (
      c.duplicate.ensures,
      ap is_some (ap (λ z. first_of_two z (item_among c.args.self.now.items.entries c.args.space (id_of c.args.id))) c.requires.named
          ∙ sym (at-key c.args.self.now.items.entries c.key_of.result c.args.space (id_of c.args.id) c.key_of.ensures) ∙ sym c.in-Ok-Some.ensures.old ∙ c.in-Ok-Some.field-0-is),
    )
