use Rattle.std.proofs.Common.{cond, Some, ◌∙◌, ap}
use Rattle.std.specs.Ordering.{is_eq}
use Rattle.comp_walks.specs.Lent.{id_of}
use Rattle.open_scopes.specs.Registered.{key_cmp, item_at}
use Rattle.open_scopes.proofs.Lookups.{by-key}
use Rattle.open_scopes.proofs.registry.Registry.replace.Goals as goal

pub returns-in-Ok : goal.returns-in-Ok
returns-in-Ok c =
    let left = c.in-Ok-false.ensures.left c.in-Ok-false.field-0-test in
    by-key c.args.self.now (record { items = c.insert.new.self; numbered = c.put_numbered.new.self.numbered }) c.args.space (id_of c.args.id) c.args.item left.0 left.1 c.key_of.result c.key_of.ensures
    (λ q. c.in-Ok.ensures.updates.0 q ∙ ap (λ m. cond (is_eq (key_cmp c.key_of.result q)) (Some c.args.item) (item_at m.entries q)) c.in-Ok-false.ensures.items)
