use Rattle.std.proofs.Common.{Some, option_map, is_some, map, ap, sym, ◌∙◌}
use Rattle.core_model.specs.Types.{type_place}
use Rattle.core_resolve.specs.Signatures.{signature}
use Rattle.core_names.proofs.Places.{shown-push}
use Rattle.core_resolve.proofs.TypePlaces.{place-again}
use Rattle.core_resolve.proofs.type_table.TypeTable.push_again.Goals as goal
use Rattle.core_resolve.proofs.type_table.TypeTable.push_again.Goals.{in-Ok, in-Err}

pub invariant_of-self : goal.invariant_of-self
invariant_of-self c = λ k. elim c.match-push.branch [
  | in-Ok w ↦ c.self.invariant k ∙ sym (place-again (signature k) (signature c.args.signature) (map (option_map signature) c.self.inside.types.items) (ap (λ ts. is_some (type_place (signature c.args.signature) ts)) c.self.view_is ∙ c.requires.there)) ∙ ap (type_place (signature k)) (shown-push (option_map signature) c.self.inside.types.items c.push.new.self.items (Some c.args.signature) w.in-Ok.ensures.items)
  | in-Err w ↦ c.self.invariant k ∙ ap (λ ts. type_place (signature k) (map (option_map signature) ts)) (sym w.in-Err.ensures.items)
]
