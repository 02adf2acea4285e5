use Rattle.std.proofs.Common.{sym, ◌∙◌, ap}
use Rattle.core_model.specs.Rule.{unknown}
use Rattle.core_syntax.specs.Ids.{id_of, reference_of}
use Rattle.core_names.specs.ModuleIds.{place_named}
use Rattle.core_checks.proofs.Found.{known, memory-alone, named-place, one-added}
use Rattle.core_checks.proofs.instructions.find_name.Goals as goal

pub returns-in-Some-clause-told : goal.returns-in-Some-clause-told
returns-in-Some-clause-told c =
    memory-alone (unknown c.args.ids.now (reference_of c.args.index.now)) c.push_place.result
    (known c.args.ids.now (reference_of c.args.index.now) c.in-Some.place (sym c.in-Some.is ∙ c.try_resolve.ensures)) c.push_place.ensures.memory

pub returns-in-Some-clause-found : goal.returns-in-Some-clause-found
returns-in-Some-clause-found c =
    one-added c.push_place.result c.push_place.new.places.items c.args.places.now.items c.in-Some.place (place_named c.args.ids.now (reference_of c.args.index.now))
    (named-place c.args.ids.now (reference_of c.args.index.now) (id_of c.in-Id.id) c.in-Some.place (ap reference_of c.in-Id.is) (sym c.in-Some.is ∙ c.try_resolve.ensures)) c.push_place.ensures.added
