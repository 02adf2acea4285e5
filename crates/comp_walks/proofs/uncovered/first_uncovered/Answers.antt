use Rattle.std.proofs.Common.{◌∙◌, ap}
use Rattle.comp_model.specs.Events.{told_defs}
use Rattle.core_model.specs.Uncovered.{core_uncovered}
use Rattle.comp_walks.specs.Lists.{definitions}
use Rattle.comp_walks.specs.Sought.{sought_step, is_nothing, answer}
use Rattle.comp_walks.proofs.FirstTold.{defs-answered}
use Rattle.comp_walks.proofs.uncovered.first_uncovered.Goals as goal

pub returns : goal.returns
returns g c =
    let ds = definitions g.T.Definition.def c.args.items.now in
    c.answer.ensures ∙ ap answer (c.walk_definitions.ensures ∙ ap (told_defs (sought_step (λ d. core_uncovered d.fields)) is_nothing ds) c.new-first.ensures) ∙ defs-answered (λ d. core_uncovered d.fields) ds
