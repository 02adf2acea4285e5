use Rattle.std.proofs.Common.{true, sym, ◌∙◌}
use Rattle.comp_walks.specs.Lists.{definitions}
use Rattle.comp_walks.proofs.ResolvedTold.{defs-pass, defs-all}
use Rattle.comp_walks.proofs.shapes.is_resolved.Goals as goal

pub returns : goal.returns
returns g c =
    let ds = definitions g.T.Definition.def c.args.items.now in
    (λ h. (defs-pass ds true (sym c.all_pass.ensures ∙ h)).1, λ x. c.all_pass.ensures ∙ defs-all ds x)
