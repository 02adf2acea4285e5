use Rattle.std.proofs.Common.{None, option_map, map, ap, sym, ◌∙◌}
use Rattle.core_model.specs.Types.{type_place}
use Rattle.core_resolve.specs.Signatures.{signature}
use Rattle.core_names.proofs.Places.{shown-push}
use Rattle.core_resolve.proofs.TypePlaces.{place-other}
use Rattle.core_resolve.proofs.type_table.TypeTable.push_other.Goals as goal
use Rattle.core_resolve.proofs.type_table.TypeTable.push_other.Goals.{in-Ok, in-Err}

pub invariant_of-self : goal.invariant_of-self
invariant_of-self c = λ k. elim c.match-push.branch [
  | in-Ok w ↦ c.self.invariant k ∙ sym (place-other (signature k) (map (option_map signature) c.self.inside.types.items)) ∙ ap (type_place (signature k)) (shown-push (option_map signature) c.self.inside.types.items c.push.new.self.items None w.in-Ok.ensures.items)
  | in-Err w ↦ c.self.invariant k ∙ ap (λ ts. type_place (signature k) (map (option_map signature) ts)) (sym w.in-Err.ensures.items)
]
