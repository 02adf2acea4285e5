use Rattle.std.proofs.Common.{Some, option_map, map, length, ap, sym, ◌∙◌}
use Rattle.std.proofs.lemmas.List.{length-map}
use Rattle.std.specs.BTreeMap.{get}
use Rattle.core_model.specs.Types.{type_place}
use Rattle.core_resolve.specs.Signatures.{signature}
use Rattle.core_resolve.specs.Order.{order}
use Rattle.core_names.proofs.Places.{shown-push}
use Rattle.core_resolve.proofs.TypePlaces.{places-push}
use Rattle.core_resolve.proofs.type_table.TypeTable.push_new.Goals as goal

pub invariant_of-self-in-Ok-insert : goal.invariant_of-self-in-Ok-insert
invariant_of-self-in-Ok-insert c = λ k.
    places-push (get order c.self.inside.places) (get order c.insert.new.self) c.in_ok-key.key (signature c.args.signature) (map (option_map signature) c.self.inside.types.items)
    c.in_ok-key.ensures c.self.invariant (ap (type_place (signature c.args.signature)) c.self.view_is ∙ c.requires.absent)
    _ (ap length c.as_slice.ensures.value ∙ sym (length-map c.self.inside.types.items (option_map signature))) c.in-Ok-insert.ensures.updates.0 k
    ∙ ap (type_place (signature k)) (shown-push (option_map signature) c.self.inside.types.items c.push.new.self.items (Some c.args.signature) c.in-Ok.ensures.items)
