use Rattle.std.proofs.Common.{◌≡◌, true, IfErr, ◌⊎◌, Option, is_some, sym, subst, ◌∙◌}
use Rattle.comp_walks.specs.Lent.{id_of}
use Rattle.wast_tokens.specs.declared.error.ErrorKind.TheVariants.{Duplicate}
use Rattle.open_scopes.specs.declared.registry.Item.{Item}
use Rattle.open_scopes.specs.Refusals.{refusal, no_memory}
use Rattle.open_scopes.proofs.Lookups.{by-slot, is-added, found-same, none-of}
use Rattle.open_scopes.proofs.registry.Registry.register_numbered.Goals as goal

pub register_named-requires : goal.register_named-requires
register_named-requires c =
    let left = c.in-Ok-false.ensures.left c.in-Ok-false.field-0-test in
    record { named = left.1 c.args.space (id_of c.args.id) ∙ left.0 }

pub returns-in-Ok-true-clause-added : goal.returns-in-Ok-true-clause-added
returns-in-Ok-true-clause-added c =
    is-added c.args.self.now c.put_numbered.new.self c.args.space (id_of c.args.id) c.args.item
    (sym c.find.ensures ∙ none-of c.find.result c.if-is_some.ensures)
    (by-slot c.args.self.now c.put_numbered.new.self c.args.space (id_of c.args.id) c.args.item c.in-Ok-true.ensures.items (c.in-Ok-true.ensures.put c.in-Ok-true.field-0-test))

pub returns-in-Ok-false-clause-refused : goal.returns-in-Ok-false-clause-refused
returns-in-Ok-false-clause-refused c =
    let left = c.in-Ok-false.ensures.left c.in-Ok-false.field-0-test in
    subst (λ (o : Option Item). IfErr c.register_named.result (λ e. (e ≡ no_memory) ⊎ ((e ≡ refusal Duplicate (id_of c.args.id).offset) × (is_some o ≡ true))))
    (found-same c.args.self.now c.put_numbered.new.self c.args.space (id_of c.args.id) (left.1 c.args.space (id_of c.args.id)) c.in-Ok-false.ensures.items)
    c.register_named.ensures.refused
