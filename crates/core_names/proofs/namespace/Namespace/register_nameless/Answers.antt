use Rattle.std.proofs.Common.{ap, sym, map, ◌∙◌, None}
use Rattle.core_model.specs.Items.{place_of}
use Rattle.core_syntax.specs.Ids.{option_id}
use Rattle.core_names.proofs.Places.{place_of-nameless, shown-push}
use Rattle.core_names.proofs.namespace.Namespace.register_nameless.Goals as goal
use Rattle.core_names.proofs.namespace.Namespace.register_nameless.Goals.{in-Ok, in-Err}

pub invariant_of-self : goal.invariant_of-self
invariant_of-self c = λ k x h. elim c.match-push.branch [
  | in-Ok w ↦ c.self.invariant k x h ∙ sym (place_of-nameless x (map option_id c.self.inside.ids.items)) ∙ ap (place_of x) (shown-push option_id c.self.inside.ids.items c.push.new.self.items None w.in-Ok.ensures.items)
  | in-Err w ↦ c.self.invariant k x h ∙ ap (λ is. place_of x (map option_id is)) (sym w.in-Err.ensures.items)
]
