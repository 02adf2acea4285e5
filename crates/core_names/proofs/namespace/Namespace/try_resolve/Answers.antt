use Rattle.std.proofs.Common.{ap, sym, ◌∙◌}
use Rattle.core_model.specs.Items.{place_of, meant}
use Rattle.core_syntax.specs.Ids.{id_of, reference_of}
use Rattle.core_names.proofs.namespace.Namespace.try_resolve.Goals as goal

pub returns-in-Id : goal.returns-in-Id
returns-in-Id c =
    c.copied.ensures ∙ c.get.ensures.value ∙ c.self.invariant c.key_of.result (id_of c.in-Id.id) c.key_of.ensures
    ∙ ap (place_of (id_of c.in-Id.id)) c.self.view_is ∙ ap (λ i. meant c.args.self.now (reference_of i)) (sym c.in-Id.is)
