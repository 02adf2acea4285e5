use Rattle.std.proofs.Common.{sym, subst, map, option_map, ◌++◌, ◌∙◌}
use Rattle.comp_model.specs.Spaces.{parts}
use Rattle.comp_tree.specs.Model.{id_of}
use Rattle.tree_resolve.specs.Registering.{RegisteredUpTo}
use Rattle.std.proofs.Common.{◌<◌, ◌^◌, length}
use Rattle.tree_resolve.proofs.register.register_listed.Goals as goal

pub register_parts-requires : goal.register_parts-requires
register_parts-requires c = record { few = subst (λ z. length z < 2 ^ 32) (sym (c.deref.ensures.value ∙ c.in-Ok.ensures c.requires.few.0)) c.requires.few.1 }

pub returns : goal.returns
returns c = λ C all more h.
    c.register_parts.ensures all more (subst (λ z. RegisteredUpTo c.args.registry.now all (parts c.args.definition 0 (map (option_map id_of) c.args.def.now.names.now.ids.now) z ++ more)) (sym (c.deref.ensures.value ∙ c.in-Ok.ensures C)) h)
